use Rattle.std.proofs.Common.{arith}
use Rattle.dns_names.proofs.WireLaws.{front_le}
use Rattle.dns_names.proofs.name.Name.offset_at.Goals as goal

pub returns-clause-within : goal.returns-clause-within
returns-clause-within c = omega (arith, c.requires.offsets c.args.index c.requires.within, front_le c.args.index c.args.self.now.labels)
