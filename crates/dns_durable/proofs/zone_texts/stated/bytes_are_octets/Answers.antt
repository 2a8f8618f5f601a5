use Rattle.std.proofs.Common.{arith}
use Rattle.dns_durable.proofs.StatedLaws.{octets_of}
use Rattle.dns_durable.proofs.zone_texts.stated.bytes_are_octets.Goals as goal

pub returns : goal.returns
returns c = octets_of _ (λ k. omega (arith, c.type_inv._bytes k))
