use Rattle.std.proofs.Common.{◌∙◌, sym, arith}
use Rattle.dns_wire.proofs.DecimalLaws.{refused-at}
use Rattle.dns_wire.proofs.codes.decimal.parse_decimal.Goals as goal

pub returns-in_err-number-clause-value : goal.returns-in_err-number-clause-value
returns-in_err-number-clause-value c = c.from_residual.ensures ∙ sym (c.loop-byte.invariant.spells ∙ refused-at c.args.greatest c.loop-byte.number c.loop-byte.byte-index c.args.text.now (omega arith) (sym c.in_err-number.ensures.value))
