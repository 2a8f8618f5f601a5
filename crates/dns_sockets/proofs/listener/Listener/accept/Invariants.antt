-- What happened so far is allowed, and so many attempts were made.
use Rattle.std.proofs.Common.{map}
use Rattle.std.specs.List.{AllByRecursion}
use Rattle.dns_sockets.specs.Connections.{AreFollowed}
use Rattle.dns_sockets.specs.Events.{Performs}
use Rattle.dns_sockets.specs.StreamTable.{KeepsTurns}
use Rattle.dns_sockets.specs.Trace.{At, IsAsideEvent}
use Rattle.dns_sockets.proofs.ListenerLaws.{Tried}
use Rattle.dns_sockets.proofs.listener.Listener.accept.Given as goal

abbrev pub invariant-loop-connection : goal.invariant-loop-connection
invariant-loop-connection g l = record {
  followed : Performs g.W.World.performs l.initial.world l.world (λ es. AllByRecursion IsAsideEvent es × AreFollowed l.initial.streams.slots.items l.streams.slots.items (map At es));
  tried : Tried g.W.World.performs l.index l.now l.initial.self l.initial.streams l.initial.world l.world l._connection l.self l.streams;
  turns : KeepsTurns l.initial.streams l.streams;
}
