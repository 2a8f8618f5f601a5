use Rattle.dns_zone.specs.declared.transport.Transport.TheVariants.{Datagram}
use Rattle.dns_blocking.specs.Serving.{ServesAtMost}
use Rattle.dns_blocking.proofs.server_end.ServerEnd.serve_waiting.Given as goal

-- At most as many datagrams were served as there were turns.
abbrev pub invariant-loop-served : goal.invariant-loop-served
invariant-loop-served g l =
    ServesAtMost g.D.DatagramResponder.replies (Datagram l.limit) l.fn.responder l._served l.responder
