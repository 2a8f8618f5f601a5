use Rattle.nameserver_handlers.proofs.EachLaws.{answered_more, stopped_at, stopped_behind}
use Rattle.nameserver_handlers.proofs.RuleLaws.{on_error}
use Rattle.nameserver_handlers.proofs.handler.RequestHandler.handle_each.Goals as goal

pub returns-in_err-handle_one-clause-err : goal.returns-in_err-handle_one-clause-err
returns-in_err-handle_one-clause-err g c =
    on_error c.from_residual.result _ (stopped_at g.S.Storage.performs c.args.requests.now c.loop-request.request-index _ c.loop-request-test.true _ _ _ c.loop-request.deliveries.items c.loop-request.invariant c.in_err-handle_one.ensures.err)

pub returns-in_err-push-clause-err : goal.returns-in_err-push-clause-err
returns-in_err-push-clause-err g c =
    on_error c.from_residual-in_err-push.result _ (stopped_behind g.S.Storage.performs c.args.requests.now c.loop-request.request-index _ c.loop-request-test.true _ _ _ c.loop-request.deliveries.items _ c.loop-request.invariant c.in_ok-handle_one.ensures.ok)

pub loop-request-preserved : goal.loop-request-preserved
loop-request-preserved g c =
    answered_more g.S.Storage.performs _ _ _ c.args.requests.now c.loop-request.request-index _ c.loop-request.deliveries.items c.push.new.self.items _ c.loop-request-test.true c.in_ok-push.ensures.items c.loop-request.invariant c.in_ok-handle_one.ensures.ok
