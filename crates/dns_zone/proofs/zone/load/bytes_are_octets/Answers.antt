use Rattle.std.proofs.Common.{arith}
use Rattle.dns_zone.proofs.PrintableLaws.{octets_of}
use Rattle.dns_zone.proofs.zone.load.bytes_are_octets.Goals as goal

pub returns : goal.returns
returns c = octets_of _ (λ k. omega (arith, c.type_inv._bytes k))
