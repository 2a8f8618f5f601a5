use Rattle.std.proofs.Common.{arith}
use Rattle.dns_notify.specs.Secondary.{announcement, with_pending}
use Rattle.dns_notify.proofs.SecondaryLaws.{write_each}
use Rattle.dns_notify.proofs.notifications.announce_to.Goals as goal

pub loop-secondary-preserved : goal.loop-secondary-preserved
loop-secondary-preserved c =
    write_each (with_pending (announcement c.args.retries.now c.args.now)) c.args.secondaries.now c.loop-secondary.secondaries c.loop-secondary.secondary-index _ c.announce.new.self
    (omega arith) (omega arith) c.loop-secondary.invariant c.announce.ensures
