use Rattle.std.proofs.Common.{length}
use Rattle.stub_link.proofs.Scripts.{EventsLeft}
use Rattle.stub_link.proofs.link.scripted.ScriptedLink.deliver_events.Given as goal

abbrev pub invariant-loop-event : goal.invariant-loop-event
invariant-loop-event l = EventsLeft l.fn.self l.self

abbrev pub decreases-loop-event : goal.decreases-loop-event
decreases-loop-event l = length l.self.events.items
