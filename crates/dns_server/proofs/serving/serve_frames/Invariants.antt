use Rattle.std.proofs.Common.{length}
use Rattle.dns_server.specs.Serving.{IsServed}
use Rattle.dns_server.proofs.serving.serve_frames.Given as goal

abbrev pub invariant-loop : goal.invariant-loop
invariant-loop g l =
    IsServed (λ s. g.R.Responder.replies s l.updates) l.initial.responder l.initial.connection l.responder l.connection

abbrev pub decreases-loop : goal.decreases-loop
decreases-loop g l = length l.connection.input
