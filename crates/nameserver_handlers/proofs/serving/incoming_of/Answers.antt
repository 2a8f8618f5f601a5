use Rattle.std.proofs.Common.{arith, refl}
use Rattle.nameserver_handlers.proofs.HandlingLaws.{incoming_more}
use Rattle.nameserver_handlers.proofs.serving.incoming_of.Goals as goal

pub loop-index-preserved : goal.loop-index-preserved
loop-index-preserved c =
    incoming_more c.args.requests.now c.args.terms.now c.loop-index.index _ _ c.loop-index.incoming.items c.push.new.self.items _ c.loop-index-test.true (omega (arith, c.loop-index-test.true, c.requires)) c.in_ok-push.ensures.items c.loop-index.invariant refl
    c.index-terms-index.is
