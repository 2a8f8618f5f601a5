use Rattle.std.proofs.Common.{◌≤◌, List, ℕ, length, subst}
use Rattle.dns_sockets.specs.World.{moved, write_event}
use Rattle.dns_sockets.proofs.ActivityLaws.{one_active, write_active}
use Rattle.dns_sockets.proofs.StreamStepLaws.{within_moved}
use Rattle.dns_sockets.proofs.stream.Stream.write.Goals as goal

pub returns-clause-write : goal.returns-clause-write
returns-clause-write g c = (
  c.write-progress.result,
  (
    subst (λ (bytes : List ℕ). g.W.World.performs c.args.world.now (write_event c.args.index c.write-progress.result bytes) c.write-progress.new.self) c.rest.ensures c.write-progress.ensures.performs,
    (subst (λ (bytes : List ℕ). moved c.write-progress.result ≤ length bytes) c.rest.ensures (within_moved c.write-progress.result _ c.write-progress.ensures.within), c.wrote.ensures.written),
  ),
)

pub returns-clause-active : goal.returns-clause-active
returns-clause-active g c =
    one_active g.W.World.performs c.args.self.now.last_activity c.wrote.new.self.last_activity c.args.world.now c.write-progress.new.self (write_event c.args.index c.write-progress.result c.rest.result.now) (moved c.write-progress.result)
    c.write-progress.ensures.performs c.wrote.ensures.active (write_active c.args.index c.write-progress.result c.rest.result.now c.write-progress.ensures.within)
