-- The versions of a zone, by the events of a run alone: nobody asks here.
use Rattle.std.specs.Prelude.{◌≡◌, ◌⊎◌, true, false, List, [], ◌∷◌, ◌++◌, ℕ, slice_get, Option, Some, None, if◌then◌else◌}
use Rattle.std.specs.List.{fold}
use Rattle.dns_messages.specs.declared.op_code.OpCode.TheVariants as ops
use Rattle.dns_messages.specs.declared.message.Message.{Message}
use Rattle.dns_zone.specs.Rows.{ZoneContent}
use Rattle.dns_zone.specs.Serving.{zone_after}
use Rattle.stub_link.specs.declared.link.script.LinkEvent.{LinkEvent}
use Rattle.stub_link.specs.declared.link.script.LinkEvent.TheVariants as does
use Rattle.stub_link.specs.declared.link.script.Script.{Script}
use Rattle.stub_link.specs.declared.link.script.Script.TheVariants as script
use Rattle.stub_link.specs.LinkState.{Course, Honest, Listed, LinkState, Version, begins_with_fail, course_of, end_event, history_after, named_update}

-- what a server has come to: its zone, the versions of its rows, and the datagram of each update event, or none
pub record Past : Type 0 where
  pub zone : ZoneContent
  pub history : List Version
  pub updates : List (Option Message)

-- before any event: the rows of the zone hold from moment 0 on
abbrev pub first_past : ZoneContent → Past
first_past zone = record { zone = zone; history = record { moment = 0; rows = zone.rows } ∷ []; updates = [] }

-- what a state of the link knows of the past
abbrev pub past_of : LinkState → Past
past_of state = record { zone = state.zone; history = state.history; updates = state.updates }

-- an update is delivered at a moment; what names none is skipped
abbrev pub past_after : ℕ → Past → Option Message → Past
past_after moment past None = past
past_after moment past (Some m) = record past {
  zone = zone_after past.zone m;
  history = history_after moment past.zone m past.history;
}

-- a link event delivers an update or changes nothing
abbrev pub past_after_event : ℕ → Past → LinkEvent → Past
past_after_event moment past (does.Update k) = past_after moment past (named_update (slice_get past.updates k))
past_after_event moment past event = past

-- What an event delivers by its end. The honest script delivers the datagram that the event sends.
abbrev pub past_after_script : ℕ → Script → Option Message → Past → Past
past_after_script moment script.Honest sent past = past_after moment past sent
past_after_script moment (script.Listed events) sent past = fold (past_after_event moment) past events.items

-- the datagram of an update event: none if its sending fails, or if it found no memory
abbrev pub sent_update : Script → Option Message → Option Message
sent_update s update = if begins_with_fail (course_of s) then None else update

-- What the link sees of an event: its moment, its script, and whether it is an update, with its message, or none if there was no
-- memory for its datagram.
pub record Occasion : Type 0 where
  pub moment : ℕ
  pub script : Script
  pub update : Option (Option Message)

-- what an event leads to: if it sends an update, this has the next place among the updates, empty if it was not sent
abbrev pub past_after_update : ℕ → Script → Option (Option Message) → Past → Past
past_after_update moment s None past = past_after_script moment s None past
past_after_update moment s (Some update) past =
    let sent : Option Message = sent_update s update in
    past_after_script moment s sent (record past { updates = past.updates ++ sent ∷ [] })

-- what an event leads to, as the link sees it
abbrev pub past_after_occasion : Past → Occasion → Past
past_after_occasion past occasion = past_after_update occasion.moment occasion.script occasion.update past

-- the versions of a zone after events
abbrev pub history_of : ZoneContent → List Occasion → List Version
history_of zone occasions = (fold past_after_occasion (first_past zone) occasions).history

-- ---- what asks leave as it is

-- datagrams that ask questions, and update nothing
abbrev pub AreQuestions : List Message → Type 0
AreQuestions [] = Unit {0}
AreQuestions (m ∷ ms) = (m.metadata.op_code ≡ ops.Query) × AreQuestions ms

-- the datagrams that the honest script has not delivered yet ask questions
abbrev pub HasQuestions : Course → Type 0
HasQuestions (Honest under_way) = AreQuestions under_way
HasQuestions (Listed events) = Unit {0}

-- a state within an event that sends no update: all that was sent, but for updates, are questions
pub record IsAsking (state : LinkState) : Type 0 where
  pub datagrams : AreQuestions state.datagrams
  pub course : HasQuestions state.course
  pub is_update : state.is_update ≡ false

-- what the past of a state will be when its event ends
abbrev pub past_to_come : LinkState → Past
past_to_come state = past_of (end_event state)

-- Questions leave that as it is, whatever they end in.
pub record KeepsHistory (old new : LinkState) : Type 0 where
  pub asking : IsAsking new
  pub same : past_to_come new ≡ past_to_come old

-- the history is kept, unless the link or its server runs out of memory
abbrev pub KeepsUnlessOut : LinkState → LinkState → Type 0
KeepsUnlessOut old new = (new.out_of_memory ≡ true) ⊎ KeepsHistory old new
