use Rattle.std.proofs.Common.{◌≡◌, ◌+◌, List, length}
use Rattle.dns_sockets.specs.Events.{Led}
use Rattle.dns_sockets.specs.World.{WorldEvent}
use Rattle.dns_sockets.specs.schedule.Schedule.{all_due, all_left}
use Rattle.dns_sockets.proofs.DueLaws.{Sends}
use Rattle.dns_sockets.proofs.datagrams.send_due.Given as goal

-- the first replies that are due were sent
abbrev pub invariant-loop-reply : goal.invariant-loop-reply
invariant-loop-reply g l = record {
  sent : (done : List WorldEvent) × (Led g.W.World.performs l.initial.world done l.world × Sends (all_due l.now l.waiting.items) (all_due l.now l.initial.waiting.items) done);
  left : all_left l.now l.waiting.items ≡ all_left l.now l.initial.waiting.items;
  same : l.waiting ≡ record l.initial.waiting { items = l.waiting.items };
  counted : length l.waiting.items + l._reply ≡ length l.initial.waiting.items;
}
