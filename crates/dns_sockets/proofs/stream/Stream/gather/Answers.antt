use Rattle.std.proofs.Common.{ap}
use Rattle.dns_sockets.proofs.StreamStepLaws.{first_of_next, gathered_more}
use Rattle.dns_sockets.proofs.stream.Stream.gather.Goals as goal

pub loop-request-preserved : goal.loop-request-preserved
loop-request-preserved g c =
    let kept = c.loop-request.invariant.kept in
    record {
      taken = gathered_more _ _ _ _ _ _ _ c.loop-request.invariant.taken c.in_ok-push.ensures.items c.in_ok-bytes.ensures.items
          (first_of_next c.loop-request.self.connection _ c.in-Some.ensures) (ap (λ s. s.input) c.in_ok-complete.ensures.ok);
      kept = record { peer = kept.peer; held = kept.held; output = kept.output; is_closing = kept.is_closing; active = kept.active };
    }
