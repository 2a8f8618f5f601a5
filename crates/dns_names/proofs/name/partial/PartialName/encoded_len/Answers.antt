use Rattle.std.proofs.Common.{arith}
use Rattle.dns_names.proofs.PartialLaws.{partial_len, few_bytes}
use Rattle.dns_names.proofs.name.partial.PartialName.encoded_len.Goals as goal

pub overflow_add-result : goal.overflow_add-result
overflow_add-result c = omega (arith, c.len.ensures.value, few_bytes _ _ _ c.self.invariant)

pub returns : goal.returns
returns c = rw (← c.self.view_is) (omega (arith, c.len.ensures.value, partial_len _ _ _ c.self.invariant))
