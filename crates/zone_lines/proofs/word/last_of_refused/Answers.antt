use Rattle.std.proofs.Common.{ℕ, ◌+◌, ◌-◌, ◌/◌, arith}
use Rattle.zone_lines.proofs.WordLaws.{accepts_more, at_fault, refuses_less}
use Rattle.zone_lines.proofs.word.last_of_refused.Goals as goal

pub loop-refused-preserved-in-Begins : goal.loop-refused-preserved-in-Begins
loop-refused-preserved-in-Begins c =
    let middle : ℕ = c.loop-refused.accepted + (c.loop-refused.refused - c.loop-refused.accepted) / 2 in
    let begins = rw c.in-Begins.is at c.in_ok-judge.ensures in
    accepts_more c.args.context.now c.args.tokens.now c.loop-refused.accepted c.loop-refused.refused middle c.loop-refused.invariant
    (omega arith) begins

pub loop-refused-preserved : goal.loop-refused-preserved
loop-refused-preserved c =
    let middle : ℕ = c.loop-refused.accepted + (c.loop-refused.refused - c.loop-refused.accepted) / 2 in
    let refused = rw c.in-Refused.is at c.in_ok-judge.ensures in
    refuses_less c.args.context.now c.args.tokens.now c.loop-refused.accepted c.loop-refused.refused middle c.loop-refused.invariant
    (omega arith) (omega arith) refused

pub returns : goal.returns
returns c =
    at_fault c.args.context.now c.args.tokens.now c.loop-refused.accepted c.loop-refused.refused c.loop-refused.invariant (omega arith)
