use Rattle.std.proofs.Common.{◌≡◌, drop}
use Rattle.dns_server.specs.AddressList.{same_bits}
use Rattle.dns_server.proofs.address_list.same_bits.Given as goal

abbrev pub invariant-loop-index : goal.invariant-loop-index
invariant-loop-index l = same_bits l.bits l.one l.other ≡ same_bits l.left (drop l.index l.one) (drop l.index l.other)
