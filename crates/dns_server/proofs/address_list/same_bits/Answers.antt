use Rattle.std.proofs.Common.{sym}
use Rattle.dns_server.proofs.AddressLaws.{other-length}
use Rattle.dns_server.proofs.address_list.same_bits.Goals as goal

pub returns-then-one-other : goal.returns-then-one-other
returns-then-one-other c = sym (other-length c.args.bits c.args.one.now c.args.other.now c.if-one-other.true)
