use Rattle.std.proofs.Common.{ap, arith, length}
use Rattle.nameserver_handlers.proofs.NoticeLaws.{expected_at, none_expects, unexpected_at}
use Rattle.nameserver_handlers.proofs.notices.take_response.Goals as goal

pub returns-then-branch-clause-ok : goal.returns-then-branch-clause-ok
returns-then-branch-clause-ok c =
    expected_at c.args.response.now.peer c.args.response.now.bytes.now c.args.followers.now c.loop-place.followers c.loop-place.place c.index-followers-place.result c.receive.new.self
    c.loop-place.invariant.same (omega (arith, c.loop-place-test.true, ap length c.loop-place.invariant.same)) c.in_ok-receive.field-0 c.if-branch.true c.in_ok-receive.ensures.ok

pub loop-place-preserved : goal.loop-place-preserved
loop-place-preserved c =
    let both =
    unexpected_at c.args.response.now.peer c.args.response.now.bytes.now c.args.followers.now c.loop-place.followers c.loop-place.place c.index-followers-place.result c.receive.new.self
    c.loop-place.invariant.same (omega (arith, c.loop-place-test.true, ap length c.loop-place.invariant.same)) c.in_ok-receive.field-0 c.if-branch.false c.in_ok-receive.ensures.ok
    c.loop-place.invariant.none in
    record { same = both.0; none = both.1 }

pub returns-clause-ok : goal.returns-clause-ok
returns-clause-ok c = (
  none_expects c.args.response.now.peer c.args.response.now.bytes.now c.args.followers.now c.loop-place.place (omega (arith, c.loop-place-test.false)) c.loop-place.invariant.none,
  c.loop-place.invariant.same,
)
