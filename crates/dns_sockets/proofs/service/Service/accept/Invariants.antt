-- What happened so far is allowed, the same replies wait, and so many listeners were asked.
use Rattle.std.proofs.Common.{◌≡◌, length, map}
use Rattle.std.specs.List.{AllByRecursion}
use Rattle.dns_sockets.specs.Connections.{AreFollowed}
use Rattle.dns_sockets.specs.Events.{Performs}
use Rattle.dns_sockets.specs.Trace.{At, IsAsideEvent}
use Rattle.dns_sockets.proofs.ListenerLaws.{Asked}
use Rattle.dns_sockets.proofs.service.Service.accept.Given as goal

abbrev pub invariant-loop-index : goal.invariant-loop-index
invariant-loop-index g l = record {
  events : Performs g.W.World.performs l.initial.world l.world (λ es. AllByRecursion IsAsideEvent es × AreFollowed l.initial.self.streams.slots.items l.self.streams.slots.items (map At es));
  waiting : l.self.waiting ≡ l.initial.self.waiting;
  asked : Asked g.W.World.performs l.now l.initial.self.listeners.items l.initial.self.streams l.initial.world l.world l.index l.self.listeners.items l.self.streams;
  datagrams : l.self.datagrams.items ≡ l.initial.self.datagrams.items;
  count : length l.self.listeners.items ≡ length l.initial.self.listeners.items;
}
