-- What a run promises of whole answers: sets of records and negative answers are returned as they stood in the zone, at one
-- moment, and other errors have a reason.
use Rattle.std.specs.Prelude.{string_bytes, List, [], ◌∷◌, ℕ, Option, Ok}
use Rattle.std.specs.declared.net.ip_addr.IpAddr.{IpAddr}
use Rattle.dns_names.specs.Name.{DomainName}
use Rattle.dns_names.specs.Parse.{name_of_text}
use Rattle.dns_text.specs.Address.{IsTextOf}
use Rattle.dns_messages.specs.declared.query.Query.{Query}
use Rattle.stub_cache.specs.Ttl.{TtlConfigContent}
use Rattle.stub_core.specs.Attempts.{Lookups}
use Rattle.stub_core.specs.Resolver.{LooksUp, LooksUpHost, request_options}
use Rattle.stub_core.specs.declared.resolver.settings.Settings.{Settings}
use Rattle.stub_link.specs.History.{Occasion, Past, first_past, past_after_occasion}
use Rattle.stub_link.specs.LinkState.{Version}
use Rattle.stub_laws.specs.answers.Failing.{AreCounted}
use Rattle.stub_laws.specs.answers.Lookups.{ByStanding}
use Rattle.stub_run.specs.Headline.{WorldContent, settings_of, ttls_of}
use Rattle.stub_run.specs.declared.event.Action.{Action}
use Rattle.stub_run.specs.declared.event.Action.TheVariants as actions
use Rattle.stub_run.specs.declared.event.Event.{Event}
use Rattle.stub_run.specs.declared.report.EventReply.{EventReply}
use Rattle.stub_run.specs.declared.report.EventReply.TheVariants as replies
use Rattle.stub_run.specs.declared.report.EventReport.{EventReport}

-- lookups of a resolver in which the reply to each question stood, or is an error that has a reason
abbrev pub ByStandingIn : TtlConfigContent → DomainName → List Version → Settings → List Query → ℕ → Lookups (Unit {0}) Query
ByStandingIn ttls origin history settings failed at =
    ByStanding ttls settings.options.preserve_intermediates origin (request_options settings.options) history failed at

-- A lookup, of a name or of a host, is one in which the reply to each question stood, for each attempted name and each type of
-- addresses, or is an error that has a reason. The questions that failed by faults of the link are no more than the faults that the
-- event counts. No reply to another kind of event is one.
abbrev pub IsStandingReply : TtlConfigContent → DomainName → List Version → Settings → ℕ → ℕ → Action → EventReply → Type 0
IsStandingReply ttls origin history settings faults at (actions.Lookup name kind) (replies.Lookup found) =
    (failed : List Query) × AreCounted failed faults
    × LooksUp settings at (ByStandingIn ttls origin history settings failed at) (Ok name) kind tt found tt
IsStandingReply ttls origin history settings faults at (actions.LookupIp host) (replies.LookupIp found) =
    (address : Option IpAddr) × IsTextOf (string_bytes host) address
    × (failed : List Query) × AreCounted failed faults
    × LooksUpHost settings at (ByStandingIn ttls origin history settings failed at) address (name_of_text (string_bytes host)) tt found tt
IsStandingReply ttls origin history settings faults at (actions.Clear name kind) (replies.Cleared done) = Unit {0}
IsStandingReply ttls origin history settings faults at actions.ClearAll (replies.Cleared done) = Unit {0}
IsStandingReply ttls origin history settings faults at (actions.Update update) (replies.Update reply) = Unit {0}
IsStandingReply ttls origin history settings faults at action reply = ⊥

-- event by event, by the versions of the zone up to the end of the event
abbrev pub AreStandingEvents : TtlConfigContent → DomainName → Settings → Past → List Event → List EventReport → List Occasion → Type 0
AreStandingEvents ttls origin settings past [] [] [] = Unit {0}
AreStandingEvents ttls origin settings past (e ∷ events) (report ∷ reports) (occasion ∷ occasions) =
    IsStandingReply ttls origin (past_after_occasion past occasion).history settings report.faults e.at e.action report.reply
    × AreStandingEvents ttls origin settings (past_after_occasion past occasion) events reports occasions
AreStandingEvents ttls origin settings past events reports occasions = ⊥

-- Whole answers of a run with these occasions: the replies to its lookups stood, each set whole and each negative answer in time, and
-- each other error has a reason.
abbrev pub AreWhole : WorldContent → List Event → List EventReport → List Occasion → Type 0
AreWhole content events reports occasions =
    AreStandingEvents (ttls_of content) content.zone.origin (settings_of content) (first_past content.zone) events reports occasions
