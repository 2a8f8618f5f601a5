use Rattle.std.proofs.Common.{◌≡◌, ◌+◌, ℕ, Option, Some, IfSome, subst, arith}
use Rattle.dns_names.specs.internal.Wire.{LabelIs, RunIs}
use Rattle.dns_names.proofs.RunLaws.{no_run, next_label, long_label, run_few, run-within}
use Rattle.dns_names.proofs.name.wire.run_end.Goals as goal

pub loop-next-init : goal.loop-next-init
loop-next-init c = record { run = no_run c.args.bytes.now c.args.place c.args.room; within = c.requires }

there : (P : ℕ → Type 0) (o : Option ℕ) (n : ℕ) → IfSome o P → o ≡ Some n → P n
there P o n h e = subst (λ (x : Option ℕ). IfSome x P) e h

pub overflow_sub-next : goal.overflow_sub-next
overflow_sub-next c =
    let l : LabelIs c.args.bytes.now c.loop-next.end c.in-Some.next = there (LabelIs c.args.bytes.now c.loop-next.end) _ c.in-Some.next c.in_ok-next.ensures.label c.in-Some.is in
    omega (arith, l.end_is, run_few c.loop-next.invariant.run)

pub returns-then-next-place-clause-refused : goal.returns-then-next-place-clause-refused
returns-then-next-place-clause-refused c =
    let l : LabelIs c.args.bytes.now c.loop-next.end c.in-Some.next = there (LabelIs c.args.bytes.now c.loop-next.end) _ c.in-Some.next c.in_ok-next.ensures.label c.in-Some.is in
    long_label c.loop-next.invariant.run l (omega (arith, c.if-next-place.true))

pub overflow_add-count : goal.overflow_add-count
overflow_add-count c =
    let l : LabelIs c.args.bytes.now c.loop-next.end c.in-Some.next = there (LabelIs c.args.bytes.now c.loop-next.end) _ c.in-Some.next c.in_ok-next.ensures.label c.in-Some.is in
    omega (arith, l.end_is, run_few c.loop-next.invariant.run, c.if-next-place.false, c.ranges.room.fits)

pub loop-next-preserved : goal.loop-next-preserved
loop-next-preserved c =
    let l : LabelIs c.args.bytes.now c.loop-next.end c.in-Some.next = there (LabelIs c.args.bytes.now c.loop-next.end) _ c.in-Some.next c.in_ok-next.ensures.label c.in-Some.is in
    let run : RunIs c.args.bytes.now c.args.place c.args.room c.in-Some.next (c.loop-next.count + 1) = next_label c.loop-next.invariant.run l (omega (arith, c.if-next-place.false)) in
    record { run = run; within = run-within run.run c.requires }
