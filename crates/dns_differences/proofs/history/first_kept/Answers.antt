use Rattle.std.proofs.Common.{◌-◌, ℕ, List, ap, arith, get_or, refl}
use Rattle.dns_differences.proofs.HistoryLaws.{kept_at_start, kept_for_number, kept_for_octets, kept_for_records, one_leaves}
use Rattle.dns_differences.proofs.history.first_kept.Goals as goal

pub returns-in_default-clause-kept : goal.returns-in_default-clause-kept
returns-in_default-clause-kept c =
    kept_for_records c.args.limits.now c.args.differences.now c.loop-start.start (c.loop-start.start - 1) c.loop-start.room c.loop-start.octets_room c.index-differences-start.result
    c.loop-start.invariant (omega (arith, c.loop-start-test.true)) c.index-differences-start.is (c.in_default.ensures.none refl)

pub returns-in_default-left_after-clause-kept : goal.returns-in_default-left_after-clause-kept
returns-in_default-left_after-clause-kept c =
    kept_for_octets c.args.limits.now c.args.differences.now c.loop-start.start (c.loop-start.start - 1) c.loop-start.room c.loop-start.octets_room
    (get_or c.args.lengths.now (c.loop-start.start - 1) 0) c.index-differences-start.result c.loop-start.invariant (omega (arith, c.loop-start-test.true))
    c.index-differences-start.is (ap (λ (l : List ℕ). get_or l (c.loop-start.start - 1) 0) c.requires) (c.in_default-left_after.ensures.none refl)

pub loop-start-preserved : goal.loop-start-preserved
loop-start-preserved c =
    one_leaves c.args.limits.now c.args.differences.now c.loop-start.start (c.loop-start.start - 1) c.loop-start.room c.loop-start.octets_room c.in-Some.left c.in-Some-left_after.octets_left
    (get_or c.args.lengths.now (c.loop-start.start - 1) 0) c.index-differences-start.result c.loop-start.invariant (omega (arith, c.loop-start-test.true))
    c.index-differences-start.is (ap (λ (l : List ℕ). get_or l (c.loop-start.start - 1) 0) c.requires) c.if-differences-start.true c.in-Some.ensures.some c.in-Some-left_after.ensures.some

pub returns-else-differences-start-clause-kept : goal.returns-else-differences-start-clause-kept
returns-else-differences-start-clause-kept c =
    kept_for_number c.args.limits.now c.args.differences.now c.loop-start.start (c.loop-start.start - 1) c.loop-start.room c.loop-start.octets_room
    c.loop-start.invariant (omega (arith, c.loop-start-test.true)) c.if-differences-start.false

pub returns-after-loop-start-clause-kept : goal.returns-after-loop-start-clause-kept
returns-after-loop-start-clause-kept c =
    kept_at_start c.args.limits.now c.args.differences.now c.loop-start.start c.loop-start.room c.loop-start.octets_room
    c.loop-start.invariant (omega (arith, c.loop-start-test.false))
