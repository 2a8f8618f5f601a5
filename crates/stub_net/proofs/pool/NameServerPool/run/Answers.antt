use Rattle.std.proofs.Common.{◌≡◌, ◌+◌, ◌-◌, arith}
use Rattle.stub_net.specs.Exchange.{all_tried, rounds}
use Rattle.stub_net.proofs.RunLaws.{round-begins, rounds-over}
use Rattle.stub_net.proofs.pool.NameServerPool.run.Goals as goal

pub loop-round-init : goal.loop-round-init
loop-round-init g c = λ outcome new runs.
    let all : c.args.self.now.attempts - 0 ≡ c.args.self.now.attempts = omega arith in rw all at runs

pub loop-round-preserved : goal.loop-round-preserved
loop-round-preserved g c = λ outcome new runs.
    let n = c.args.self.now.attempts in
    let i = c.loop-round._round in
    c.loop-round.invariant outcome new (rw (← round-begins n i c.args.order.now c.loop-round-test.true) (c.in-Continue.ensures (rounds (n - (i + 1)) c.args.order.now) outcome new runs))

pub returns-in-Break : goal.returns-in-Break
returns-in-Break g c =
    let n = c.args.self.now.attempts in
    let i = c.loop-round._round in
    c.loop-round.invariant c.in-Break.outcome c.run_round.new.self (rw (← round-begins n i c.args.order.now c.loop-round-test.true) (c.in-Break.ensures (rounds (n - (i + 1)) c.args.order.now)))

pub returns : goal.returns
returns g c =
    let n = c.args.self.now.attempts in
    let i = c.loop-round._round in
    c.loop-round.invariant c.loop-round.last c.loop-round.self (rw (← rounds-over n i c.args.order.now c.loop-round-test.false) (all_tried c.loop-round.last c.loop-round.self))
