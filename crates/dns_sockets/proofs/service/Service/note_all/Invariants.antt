-- No event is at a socket, the same replies wait, the connections are as they were, and all that the world said is noted.
use Rattle.std.proofs.Common.{◌≡◌}
use Rattle.std.specs.List.{AllByRecursion}
use Rattle.dns_sockets.specs.Connections.{AreKept}
use Rattle.dns_sockets.specs.Events.{Performs}
use Rattle.dns_sockets.specs.Service.{known_of}
use Rattle.dns_sockets.specs.StreamTable.{KeepsTurns}
use Rattle.dns_sockets.specs.Trace.{IsQuiet}
use Rattle.dns_sockets.proofs.NotedLaws.{Noted}
use Rattle.dns_sockets.proofs.service.Service.note_all.Given as goal

abbrev pub invariant-loop-wake : goal.invariant-loop-wake
invariant-loop-wake g l = record {
  events : Performs g.W.World.performs l.initial.world l.world (AllByRecursion IsQuiet);
  waiting : l.self.waiting ≡ l.initial.self.waiting;
  streams : AreKept l.initial.self.streams.slots.items l.self.streams.slots.items;
  noted : Noted g.W.World.performs l.initial.world l.world l._wake (known_of l.initial.self) (known_of l.self);
  turns : KeepsTurns l.initial.self.streams l.self.streams;
}
