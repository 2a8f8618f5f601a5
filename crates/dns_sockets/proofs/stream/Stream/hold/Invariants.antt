-- The replies that are held, and those that are left, are those from before and all of these. All else is as it was.
use Rattle.std.proofs.Common.{◌≡◌, ◌++◌, map}
use Rattle.std.specs.Vec.Iter.{into_iter_items}
use Rattle.dns_sockets.specs.Stream.{held_reply}
use Rattle.dns_sockets.specs.StreamSteps.{KeepsBytes}
use Rattle.dns_sockets.proofs.stream.Stream.hold.Given as goal

abbrev pub invariant-loop-delivery : goal.invariant-loop-delivery
invariant-loop-delivery l = record {
  held : l.self.held.items ++ map (held_reply l.now) (into_iter_items l.delivery-iterator)
      ≡ l.initial.self.held.items ++ map (held_reply l.now) l.fn.deliveries.items;
  kept : KeepsBytes l.initial.self l.self;
}
