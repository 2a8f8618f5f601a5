-- The history of a zone in a run: which occasions of the link the events are.
use Rattle.std.specs.Prelude.{◌≡◌, ◌⊎◌, List, [], ◌∷◌, Option, Some, None, Err}
use Rattle.dns_messages.specs.declared.message.Message.{Message}
use Rattle.stub_lookup.specs.declared.error.NetError.TheVariants as net
use Rattle.stub_link.specs.History.{Occasion, Past, past_after_occasion, past_of}
use Rattle.stub_run.specs.Event.{update_of}
use Rattle.stub_run.specs.Run.{RunState, asks_of}
use Rattle.stub_run.specs.declared.event.Event.{Event}
use Rattle.stub_run.specs.declared.report.EventReply.{EventReply}
use Rattle.stub_run.specs.declared.report.EventReply.TheVariants as replies
use Rattle.stub_run.specs.declared.report.EventReport.{EventReport}

-- The datagram of an update is its message. There may be no memory for it, and then want of memory is the reply.
abbrev pub IsUpdateOf : Option Message → EventReply → Option (Option Message) → Type 0
IsUpdateOf None reply update = update ≡ None
IsUpdateOf (Some m) reply update = (update ≡ Some (Some m)) ⊎ ((update ≡ Some None) × (reply ≡ replies.Update (Err net.Memory)))

-- what the link sees of an event
pub record IsOccasion (e : Event) (reply : EventReply) (occasion : Occasion) : Type 0 where
  pub moment : occasion.moment ≡ e.at
  pub script : occasion.script ≡ e.script
  pub update : IsUpdateOf (update_of e.action) reply occasion.update

-- event by event
abbrev pub AreOccasions : List Event → List EventReport → List Occasion → Type 0
AreOccasions [] [] [] = Unit {0}
AreOccasions (e ∷ events) (report ∷ reports) (occasion ∷ occasions) =
    IsOccasion e report.reply occasion × AreOccasions events reports occasions
AreOccasions events reports occasions = ⊥

-- After each event, the versions of the zone are those that its occasion adds to the ones before.
abbrev pub MakePasts : Past → List RunState → List Occasion → Type 0
MakePasts past [] [] = Unit {0}
MakePasts past (state ∷ states) (occasion ∷ occasions) =
    (past_of (asks_of state).link ≡ past_after_occasion past occasion)
    × MakePasts (past_after_occasion past occasion) states occasions
MakePasts past states occasions = ⊥
