use Rattle.std.proofs.Common.{length}
use Rattle.stub_link.proofs.Receiving.{ReceiveLeft}
use Rattle.stub_link.proofs.link.scripted.ScriptedLink.receive_listed.Given as goal

abbrev pub invariant-loop-event : goal.invariant-loop-event
invariant-loop-event l = ReceiveLeft l.fn.self l.self

abbrev pub decreases-loop-event : goal.decreases-loop-event
decreases-loop-event l = length l.self.events.items
