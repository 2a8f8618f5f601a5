use Rattle.nameserver_handlers.proofs.HandlingLaws.{terms_more}
use Rattle.nameserver_handlers.proofs.handler.RequestHandler.terms_of.Goals as goal

pub loop-request-preserved : goal.loop-request-preserved
loop-request-preserved g c =
    terms_more c.args.self.now.settings c.args.requests.now c.loop-request.request-index _ c.loop-request.terms.items c.push.new.self.items _ c.loop-request-test.true c.in_ok-push.ensures.items c.loop-request.invariant c.terms.ensures
