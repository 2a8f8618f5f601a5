-- The messages that are held, and those that are left, are those from before and all of these. All else is as it was.
use Rattle.std.proofs.Common.{◌≡◌, ◌++◌, true, map}
use Rattle.std.specs.Vec.Iter.{into_iter_items}
use Rattle.dns_sockets.specs.Stream.{held_message}
use Rattle.dns_sockets.specs.StreamSteps.{KeepsBytes}
use Rattle.dns_sockets.proofs.stream.Stream.hold_all.Given as goal

abbrev pub invariant-loop-message : goal.invariant-loop-message
invariant-loop-message l = record {
  held : l.self.held.items ++ map (held_message l.now) (into_iter_items l.message-iterator)
      ≡ l.fn.self.held.items ++ map (held_message l.now) l.fn.messages.items;
  transferring : l.self.is_transferring ≡ true;
  kept : KeepsBytes l.fn.self l.self;
}
