-- What happened so far is earned and allowed.
use Rattle.dns_sockets.specs.Served.{IsServed}
use Rattle.dns_sockets.specs.Trace.{Traces}
use Rattle.dns_sockets.proofs.service.Service.serve_datagrams.Given as goal

abbrev pub invariant-loop-index : goal.invariant-loop-index
invariant-loop-index g l =
    Traces g.W.World.performs g.H.Handler.steps l.fn.world l.fn.handler l.world l.handler
    (IsServed l.fn.self.waiting.items l.fn.self.streams.slots.items l.self.waiting.items l.self.streams.slots.items)
