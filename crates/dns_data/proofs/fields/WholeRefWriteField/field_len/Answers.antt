use Rattle.std.proofs.Common.{[], ◌∷◌, arith}
use Rattle.dns_data.specs.Field.{WholeName}
use Rattle.dns_data.proofs.LengthLaws.{values_len-pieces}
use Rattle.dns_data.proofs.fields.WholeRefWriteField.field_len.Goals as goal

pub returns-clause-value : goal.returns-clause-value
returns-clause-value c = omega (arith, values_len-pieces (WholeName ∷ []) (c.args.self.now.0.now, tt), c.encoded_len.ensures.value)

pub returns-clause-bounded : goal.returns-clause-bounded
returns-clause-bounded c = omega (arith, c.encoded_len.ensures.value, c.encoded_len.ensures.labels.fits)
