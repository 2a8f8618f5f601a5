-- What requests cost, and which ids they draw.
use Rattle.std.specs.Prelude.{◌≡◌, ◌≤◌, ◌+◌, ◌*◌, List, [], ◌∷◌, ℕ, Ok, length, map, take, string_bytes}
use Rattle.dns_messages.specs.declared.query.Query.{Query}
use Rattle.dns_names.specs.Parse.{name_of_text}
use Rattle.stub_core.specs.Origins.{names_of}
use Rattle.stub_core.specs.Strategies.{kinds_of}
use Rattle.stub_core.specs.declared.resolver.settings.Settings.{Settings}
use Rattle.stub_link.specs.Ask.{Asker}
use Rattle.stub_link.specs.AskState.{AskState}
use Rattle.stub_run.specs.declared.event.Action.{Action}
use Rattle.stub_run.specs.declared.event.Action.TheVariants as actions
use Rattle.stub_run.specs.declared.event.Event.{Event}
use Rattle.stub_run.specs.declared.report.EventReport.{EventReport}
use Rattle.stub_run.specs.declared.report.Report.{Report}

-- At most so many datagrams with a question are sent, and for each of them at most sixteen datagrams are dropped.
pub record AreFew {L : Type 0} (count : ℕ) (old new : Asker L) : Type 0 where
  pub questions : new.questions ≤ old.questions + count
  pub dropped : new.dropped ≤ old.dropped + 16 * count

-- the ids that were drawn are the first ones of the list, in order
pub record HasDrawn (ids : List ℕ) (asks : AskState) : Type 0 where
  pub ids_are : asks.ids ≡ ids
  pub drawn : map (λ (draw : ℕ × Query). draw.0) asks.sent ≡ take (length asks.sent) ids

-- ---- events

-- the most questions of an event: eight for each name that a lookup attempts and each type that it asks for
abbrev pub most_questions : Settings → Action → ℕ
most_questions settings (actions.Lookup name kind) = 8 * length (names_of settings (Ok name))
most_questions settings (actions.LookupIp host) =
    8 * (length (names_of settings (name_of_text (string_bytes host))) * length (kinds_of settings.options.ip_strategy))
most_questions settings action = 0

-- the most datagrams that are dropped in an event: sixteen for each question, and for an update
abbrev pub most_dropped : Settings → Action → ℕ
most_dropped settings (actions.Update update) = 16
most_dropped settings action = 16 * most_questions settings action

-- the most of a whole run
abbrev pub most_dropped_in : Settings → List Event → ℕ
most_dropped_in settings [] = 0
most_dropped_in settings (e ∷ events) = most_dropped settings e.action + most_dropped_in settings events

-- event by event
abbrev pub EachHasFew : Settings → List Event → List EventReport → Type 0
EachHasFew settings [] [] = Unit {0}
EachHasFew settings (e ∷ events) (report ∷ reports) =
    (report.questions ≤ most_questions settings e.action) × EachHasFew settings events reports
EachHasFew settings events reports = ⊥

-- The report of a run from a number of dropped datagrams on: each event asks few questions, and few datagrams are dropped in all.
pub record HasFew (settings : Settings) (before : ℕ) (events : List Event) (report : Report) : Type 0 where
  pub questions : EachHasFew settings events report.events.items
  pub dropped : report.dropped ≤ before + most_dropped_in settings events
