use Rattle.std.proofs.Common.{refl}
use Rattle.std.proofs.lemmas.Result.{err_from_is_err_and}
use Rattle.dns_zone_file.proofs.GenerateLaws.{at_first, number_added, number_refused, all_added}
use Rattle.dns_zone_file.proofs.context.Context.add_generated.Goals as goal

pub loop-place-init : goal.loop-place-init
loop-place-init c = at_first refl

pub loop-place-preserved : goal.loop-place-preserved
loop-place-preserved c =
    number_added c.loop-place.invariant c.loop-place-test.true c.number-number.result c.as_slice.result.now c.number-number.ensures.value c.as_slice.ensures.value
    c.add_number.new.self c.in_ok-add_number.ensures.ok

pub returns-in_err-add_number-clause-refused : goal.returns-in_err-add_number-clause-refused
returns-in_err-add_number-clause-refused c =
    let p = err_from_is_err_and c.from_residual.result c.from_residual.ensures.1 in
    rw (p.1, p.2) (number_refused c.loop-place.invariant c.loop-place-test.true c.number-number.result c.as_slice.result.now c.number-number.ensures.value
    c.as_slice.ensures.value c.in_err-add_number.field-0.0 c.in_err-add_number.ensures.refused)

pub returns-clause-ok : goal.returns-clause-ok
returns-clause-ok c = all_added c.loop-place.invariant c.loop-place-test.false
