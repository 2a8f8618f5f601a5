use Rattle.std.proofs.Common.{arith, refl}
use Rattle.dns_differences.proofs.OctetLaws.{some_octets}
use Rattle.dns_differences.proofs.difference.left_after_records.Goals as goal

pub returns-in_err-left-clause-none : goal.returns-in_err-left-clause-none
returns-in_err-left-clause-none c = λ e.
    omega (arith, some_octets c.args.records.now c.loop-present.present-index c.present-item.result (omega arith) c.present-item.is, c.in_err-left.ensures.none refl, c.loop-present.invariant)
