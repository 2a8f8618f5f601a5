use Rattle.std.proofs.Common.{arith}
use Rattle.dns_names.proofs.BuildingLaws.{name_len-some}
use Rattle.dns_names.proofs.name.Name.len.Goals as goal

pub overflow_sub-result : goal.overflow_sub-result
overflow_sub-result c = omega (arith, c.encoded_len.ensures.value, name_len-some c.args.self.now.labels)
