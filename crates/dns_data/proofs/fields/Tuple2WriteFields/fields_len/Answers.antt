use Rattle.std.proofs.Common.{arith}
use Rattle.dns_data.proofs.LengthLaws.{values_len-cons}
use Rattle.dns_data.proofs.fields.Tuple2WriteFields.fields_len.Goals as goal

pub returns-clause-value : goal.returns-clause-value
returns-clause-value g c =
    let fields = c.args.self.now in
    omega (arith, values_len-cons g.F.WriteField.kind g.R.WriteFields.kinds (g.F.WriteField.value fields.0, g.R.WriteFields.values fields.1), c.field_len.ensures.value, c.fields_len.ensures.value)
