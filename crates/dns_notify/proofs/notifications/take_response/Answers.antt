use Rattle.std.proofs.Common.{arith}
use Rattle.dns_notify.specs.Notifications.{after_response}
use Rattle.dns_notify.proofs.SecondaryLaws.{write_each}
use Rattle.dns_notify.proofs.notifications.take_response.Goals as goal

pub loop-secondary-preserved : goal.loop-secondary-preserved
loop-secondary-preserved c =
    write_each (after_response c.args.address) c.args.secondaries.now c.loop-secondary.secondaries c.loop-secondary.secondary-index _ c.receive_response.new.self
    (omega arith) (omega arith) c.loop-secondary.invariant c.receive_response.ensures
