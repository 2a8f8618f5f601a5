-- What a run promises of each reply as it is given: the versions of the zone end there, before the event delivers what its script
-- has left, and the questions that failed are those that the lookup asked.
use Rattle.std.specs.Prelude.{string_bytes, List, ◌∷◌, ℕ, Option, Ok}
use Rattle.std.specs.declared.net.ip_addr.IpAddr.{IpAddr}
use Rattle.dns_names.specs.Name.{DomainName}
use Rattle.dns_names.specs.Parse.{name_of_text}
use Rattle.dns_text.specs.Address.{IsTextOf}
use Rattle.stub_cache.specs.Ttl.{TtlConfigContent}
use Rattle.stub_client.specs.Handle.{Ask, Led}
use Rattle.stub_core.specs.Resolver.{LooksUp, LooksUpHost, request_options}
use Rattle.stub_core.specs.declared.resolver.settings.Settings.{Settings}
use Rattle.stub_link.specs.AskState.{AskState, AskZone}
use Rattle.stub_link.specs.LinkState.{Version}
use Rattle.stub_laws.specs.answers.Failing.{AreCounted, failed_questions}
use Rattle.stub_laws.specs.answers.Sources.{BySources}
use Rattle.stub_run.specs.Headline.{HasChainBy, HistoryClaim, HoldsOfEvent, IsFreshBy, WorldContent, settings_of, ttls_of}
use Rattle.stub_run.specs.Run.{RunState, Runs, Step, asks_of, begin_event}
use Rattle.stub_run.specs.Whole.{ByStandingIn}
use Rattle.stub_run.specs.declared.event.Action.{Action}
use Rattle.stub_run.specs.declared.event.Action.TheVariants as actions
use Rattle.stub_run.specs.declared.event.Event.{Event}
use Rattle.stub_run.specs.declared.report.EventReply.{EventReply}
use Rattle.stub_run.specs.declared.report.EventReply.TheVariants as replies
use Rattle.stub_run.specs.declared.report.EventReport.{EventReport}

-- ---- steps

-- a claim about one event of a run
abbrev pub StepClaim : Type 1
StepClaim = (old : RunState) (e : Event) (report : EventReport) (new : RunState) → Step old e report new → Type 0

-- a claim holds of each event of a run
abbrev pub HoldsOfSteps : StepClaim → (first : RunState) (events : List Event) (reports : List EventReport)
    (states : List RunState) (last : RunState) → Runs first events reports states last → Type 0
HoldsOfSteps Claim first (e ∷ events) (report ∷ reports) (state ∷ states) last runs =
    Claim first e report state runs.0 × HoldsOfSteps Claim state events reports states last runs.1
HoldsOfSteps Claim first events reports states last runs = Unit {0}

-- The versions of the zone in a state. As the resolver replies (`Step.mid`), these are the versions up to the reply: what the
-- script has left is delivered as the event ends, after that.
abbrev pub versions_in : RunState → List Version
versions_in state = (asks_of state).link.history

-- ---- records

-- a claim holds of each reply, by the versions of the zone up to the reply
abbrev pub HoldsAtReplies : HistoryClaim → Settings → (first : RunState) (events : List Event) (reports : List EventReport)
    (states : List RunState) (last : RunState) → Runs first events reports states last → Type 0
HoldsAtReplies Claim settings first events reports states last runs =
    HoldsOfSteps
    (λ old e report new step. HoldsOfEvent (Claim (versions_in step.mid)) settings e.at e.action report.reply)
    first events reports states last runs

-- bounded staleness of a run, by the versions of the zone up to each reply
abbrev pub AreFreshAtReplies : WorldContent → (first : RunState) (events : List Event) (reports : List EventReport)
    (states : List RunState) (last : RunState) → Runs first events reports states last → Type 0
AreFreshAtReplies content first events reports states last runs =
    HoldsAtReplies (IsFreshBy (ttls_of content)) (settings_of content) first events reports states last runs

-- the chain bound of a run, if no chain of aliases passes seven links in any version of the zone up to the reply
abbrev pub HaveChainBoundsAtReplies : WorldContent → (first : RunState) (events : List Event) (reports : List EventReport)
    (states : List RunState) (last : RunState) → Runs first events reports states last → Type 0
HaveChainBoundsAtReplies content first events reports states last runs =
    HoldsAtReplies (HasChainBy (ttls_of content)) (settings_of content) first events reports states last runs

-- ---- whole answers

-- These questions with these outcomes, asked of the zone's server one after another at a moment, lead from one state to
-- another.
abbrev pub AreAsked : Settings → ℕ → AskState → List Ask → AskState → Type 0
AreAsked settings at begun asks replied =
    Led (λ old request now outcome new. AskZone old request now outcome new) (request_options settings.options)
    at begun asks replied

-- A lookup asks questions between the beginning of its event and its reply. It is one in which the reply to each question stood,
-- or is an error that has a reason. A fault of the link is a reason only for the questions that met one.
abbrev pub IsStandingReplyOf : TtlConfigContent → DomainName → List Version → Settings → ℕ → ℕ → AskState → AskState → Action
    → EventReply → Type 0
IsStandingReplyOf ttls origin history settings faults at begun replied (actions.Lookup name kind) (replies.Lookup found) =
    (asks : List Ask) × AreAsked settings at begun asks replied × AreCounted (failed_questions asks) faults
    × LooksUp settings at (ByStandingIn ttls origin history settings (failed_questions asks) at) (Ok name) kind tt found tt
IsStandingReplyOf ttls origin history settings faults at begun replied (actions.LookupIp host) (replies.LookupIp found) =
    (address : Option IpAddr) × IsTextOf (string_bytes host) address
    × (asks : List Ask) × AreAsked settings at begun asks replied × AreCounted (failed_questions asks) faults
    × LooksUpHost settings at (ByStandingIn ttls origin history settings (failed_questions asks) at) address
    (name_of_text (string_bytes host)) tt found tt
IsStandingReplyOf ttls origin history settings faults at begun replied (actions.Clear name kind) (replies.Cleared done) = Unit {0}
IsStandingReplyOf ttls origin history settings faults at begun replied actions.ClearAll (replies.Cleared done) = Unit {0}
IsStandingReplyOf ttls origin history settings faults at begun replied (actions.Update update) (replies.Update reply) = Unit {0}
IsStandingReplyOf ttls origin history settings faults at begun replied action reply = ⊥

-- Whole answers of a run, by the versions of the zone up to each reply, and by the questions that its lookup asked.
abbrev pub AreWholeAtReplies : WorldContent → (first : RunState) (events : List Event) (reports : List EventReport)
    (states : List RunState) (last : RunState) → Runs first events reports states last → Type 0
AreWholeAtReplies content first events reports states last runs =
    HoldsOfSteps
    (λ old e report new step. IsStandingReplyOf (ttls_of content) content.zone.origin (versions_in step.mid) (settings_of content)
    report.faults e.at (asks_of (begin_event e old)) (asks_of step.mid) e.action report.reply)
    first events reports states last runs

-- ---- sources

-- Each answer to each question of a lookup, of whatever type it is, has a source by the versions of the zone, and those of a
-- plain type that was asked for are recent.
abbrev pub HasReplySources : TtlConfigContent → List Version → Settings → ℕ → Action → EventReply → Type 0
HasReplySources ttls history settings at (actions.Lookup name kind) (replies.Lookup found) =
    LooksUp settings at (BySources ttls settings.options.preserve_intermediates history at) (Ok name) kind tt found tt
HasReplySources ttls history settings at (actions.LookupIp host) (replies.LookupIp found) =
    (address : Option IpAddr) × IsTextOf (string_bytes host) address
    × LooksUpHost settings at (BySources ttls settings.options.preserve_intermediates history at) address
    (name_of_text (string_bytes host)) tt found tt
HasReplySources ttls history settings at (actions.Clear name kind) (replies.Cleared done) = Unit {0}
HasReplySources ttls history settings at actions.ClearAll (replies.Cleared done) = Unit {0}
HasReplySources ttls history settings at (actions.Update update) (replies.Update reply) = Unit {0}
HasReplySources ttls history settings at action reply = ⊥

-- Sources of the answers of a run, by the versions of the zone up to each reply: of every type, by any bounds of TTLs, and
-- whether aliases are left out or preserved.
abbrev pub HaveSourcesAtReplies : WorldContent → (first : RunState) (events : List Event) (reports : List EventReport)
    (states : List RunState) (last : RunState) → Runs first events reports states last → Type 0
HaveSourcesAtReplies content first events reports states last runs =
    HoldsOfSteps
    (λ old e report new step. HasReplySources (ttls_of content) (versions_in step.mid) (settings_of content) e.at e.action
    report.reply)
    first events reports states last runs
