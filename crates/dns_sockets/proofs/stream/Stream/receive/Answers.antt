use Rattle.std.proofs.Common.{[], ◌∷◌, List, ℕ, arith, inl, refl, subst}
use Rattle.std.proofs.lemmas.List.{length-append, length-drop, length-take}
use Rattle.dns_sockets.specs.Connections.{connection_of, read_after}
use Rattle.dns_sockets.specs.StreamSteps.{StaysUnless, bytes_read, ends}
use Rattle.dns_sockets.specs.World.{moved, read_event}
use Rattle.dns_sockets.proofs.ActivityLaws.{one_active, read_active}
use Rattle.dns_sockets.proofs.StreamStepLaws.{front_is, read_leaves}
use Rattle.dns_sockets.proofs.TraceLaws.{may_read}
use Rattle.dns_sockets.proofs.stream.Stream.receive.Goals as goal

pub returns-clause-reads : goal.returns-clause-reads
returns-clause-reads g c =
    record {
      events = read_event c.args.index c.read-progress.result c.read-progress.new.buffer ∷ [];
      led = (c.read-progress.new.self, (c.read-progress.ensures.performs, refl));
      holds = (
        may_read c.args.index c.read-progress.result c.read-progress.new.buffer,
        read_leaves (ends c.read.result) c.args.index c.read-progress.result c.read-progress.new.buffer c.args.self.now (connection_of c.read.new.self) c.requires
            (omega (arith, c.room.ensures.room, c.min-count.ensures, c.read-progress.auto.buffer, length-append {A = ℕ}, length-drop {A = ℕ}, length-take {A = ℕ}))
            (subst (λ (bytes : List ℕ). StaysUnless (ends c.read.result) (read_after (bytes_read c.read-progress.result bytes) (connection_of c.args.self.now)) (connection_of c.read.new.self))
            (front_is c.min-count.result c.read-progress.new.buffer _ (omega (arith, c.min-count.ensures, c.read-progress.auto.buffer, length-append {A = ℕ}, length-drop {A = ℕ}, length-take {A = ℕ}))) c.read.ensures.read),
      );
    }

pub returns-then-is_empty-clause-reads : goal.returns-then-is_empty-clause-reads
returns-then-is_empty-clause-reads g c = record { events = []; led = refl; holds = (inl refl, λ accepted. (_, refl)) }

pub returns-clause-active : goal.returns-clause-active
returns-clause-active g c =
    one_active g.W.World.performs c.args.self.now.last_activity c.read.new.self.last_activity c.args.world.now c.read-progress.new.self (read_event c.args.index c.read-progress.result c.read-progress.new.buffer) (moved c.read-progress.result)
    c.read-progress.ensures.performs c.read.ensures.active (read_active c.args.index c.read-progress.result c.read-progress.new.buffer c.read-progress.ensures.within)
