use Rattle.std.proofs.Common.{arith}
use Rattle.std.specs.Str.{bytes_eq}
use Rattle.script_expectations.proofs.ChangeLaws.{not_false, not_true, same_at_end, same_at_first_end, same_ends, same_goes_on}
use Rattle.script_expectations.proofs.LineLaws.{text_at}
use Rattle.script_expectations.proofs.shortest.same_len.Goals as goal
use Rattle.script_expectations.proofs.shortest.same_len.Goals.{then-i-printed-via-then-i-printed, then-i-printed-via-else-i-printed+then-ne}

pub loop-i-preserved : goal.loop-i-preserved
loop-i-preserved c =
    let more = same_goes_on c.args.expected.now c.args.printed.now c.loop-i.i c.loop-i-test.true c.if-i-printed.false
    (not_false (bytes_eq (text_at c.args.expected.now c.loop-i.i) (text_at c.args.printed.now c.loop-i.i)) c.ne.result c.ne.ensures c.if-ne.false) in
    let so_far = c.loop-i.invariant.so_far in
    record { within = omega arith; so_far = omega (arith, more, so_far) }

pub returns-then-i-printed-clause-len : goal.returns-then-i-printed-clause-len
returns-then-i-printed-clause-len c =
    let so_far = c.loop-i.invariant.so_far in
    elim c.then-i-printed.branch [
      | then-i-printed-via-then-i-printed w ↦
          let none = same_at_end c.args.expected.now c.args.printed.now c.loop-i.i w.if-i-printed.true in omega (arith, none, so_far)
      | then-i-printed-via-else-i-printed+then-ne w ↦
          let none = same_ends c.args.expected.now c.args.printed.now c.loop-i.i c.loop-i-test.true w.if-i-printed.false
          (not_true (bytes_eq (text_at c.args.expected.now c.loop-i.i) (text_at c.args.printed.now c.loop-i.i)) w.ne.result w.ne.ensures w.if-ne.true) in omega (arith, none, so_far)
    ]

pub returns-clause-len : goal.returns-clause-len
returns-clause-len c =
    let so_far = c.loop-i.invariant.so_far in
    let none = same_at_first_end c.args.expected.now c.args.printed.now c.loop-i.i c.loop-i-test.false in omega (arith, none, so_far)
