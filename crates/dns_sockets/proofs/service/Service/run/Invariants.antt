-- What happened so far is earned and allowed, and the service waited in each turn.
use Rattle.std.proofs.Common.{◌≤◌}
use Rattle.dns_sockets.specs.Served.{IsServed}
use Rattle.dns_sockets.specs.Trace.{Traces, waits_in}
use Rattle.dns_sockets.proofs.service.Service.run.Given as goal

abbrev pub invariant-loop-turn : goal.invariant-loop-turn
invariant-loop-turn g l = record {
  served : Traces g.W.World.performs g.H.Handler.steps l.fn.world l.fn.handler l.world l.handler
      (IsServed l.fn.self.waiting.items l.fn.self.streams.slots.items l.self.waiting.items l.self.streams.slots.items);
  waits : Traces g.W.World.performs g.H.Handler.steps l.fn.world l.fn.handler l.world l.handler (λ acts. l._turn ≤ waits_in acts);
}
