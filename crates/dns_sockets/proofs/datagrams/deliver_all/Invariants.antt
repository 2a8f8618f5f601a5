use Rattle.std.proofs.Common.{◌≡◌, ◌++◌, List, length, map}
use Rattle.std.specs.Vec.Iter.{into_iter_items, into_iter_len}
use Rattle.dns_sockets.specs.Datagrams.{DeliversAll, peer_of}
use Rattle.dns_sockets.specs.Events.{Led}
use Rattle.dns_sockets.specs.World.{WorldEvent}
use Rattle.dns_sockets.specs.declared.datagrams.WaitingReply.{WaitingReply}
use Rattle.dns_sockets.specs.schedule.Schedule.{ScheduleContent}
use Rattle.dns_sockets.proofs.datagrams.deliver_all.Given as goal

-- what was sent, before what becomes of the deliveries that are left, is what becomes of all
abbrev pub invariant-loop-delivery : goal.invariant-loop-delivery
invariant-loop-delivery g l = record {
  whole : (done : List WorldEvent) × (Led g.W.World.performs l.initial.world done l.world
      × ((rest : List WorldEvent) (new : ScheduleContent WaitingReply) → DeliversAll l.index l.now (map peer_of l.rest) (into_iter_items l.delivery-iterator) l.waiting rest new
      → DeliversAll l.index l.now (map peer_of l.gathered) l.fn.deliveries.items l.initial.waiting (done ++ rest) new));
  counted : into_iter_len l.delivery-iterator ≡ length (into_iter_items l.delivery-iterator);
}
