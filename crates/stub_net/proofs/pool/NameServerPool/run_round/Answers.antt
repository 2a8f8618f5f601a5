use Rattle.std.proofs.Common.{◌≡◌, [], drop}
use Rattle.std.proofs.lemmas.List.{drop_all}
use Rattle.stub_net.proofs.RunLaws.{ends-at, goes-on-at}
use Rattle.stub_net.proofs.pool.NameServerPool.run_round.Goals as goal

pub returns-in-Break : goal.returns-in-Break
returns-in-Break g c = λ rest.
    c.loop-place.invariant rest c.in-Break.outcome c.try_place.new.self (ends-at _ _ _ c.args.order.now c.loop-place.place-index rest c.loop-place.last c.loop-place.self c.in-Break.outcome c.try_place.new.self c.loop-place-test.true c.in-Break.ensures)

pub loop-place-preserved : goal.loop-place-preserved
loop-place-preserved g c = λ rest outcome new runs.
    c.loop-place.invariant rest outcome new (goes-on-at _ _ _ c.args.order.now c.loop-place.place-index rest c.loop-place.last c.loop-place.self c.in-Continue.outcome c.try_place.new.self outcome new c.loop-place-test.true c.in-Continue.ensures runs)

pub returns : goal.returns
returns g c = λ rest outcome new runs.
    let none : drop c.loop-place.place-index c.args.order.now ≡ [] = drop_all c.loop-place.place-index c.args.order.now c.loop-place-test.false in
    c.loop-place.invariant rest outcome new (rw none runs)
