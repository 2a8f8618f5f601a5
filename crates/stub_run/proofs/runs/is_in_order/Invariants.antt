use Rattle.std.proofs.Common.{◌↔◌, drop}
use Rattle.stub_run.specs.Run.{InOrder}
use Rattle.stub_run.proofs.runs.is_in_order.Given as goal

-- all is in order where the rest is
abbrev pub invariant-loop-event : goal.invariant-loop-event
invariant-loop-event l = InOrder l.last (drop l.event-index l.events) ↔ InOrder 0 l.events
