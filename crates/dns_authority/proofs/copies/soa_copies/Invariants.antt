use Rattle.std.proofs.Common.{◌≡◌, map, take}
use Rattle.dns_authority.proofs.CopyLaws.{soa_of}
use Rattle.dns_authority.proofs.copies.soa_copies.Given as goal

abbrev pub invariant-loop-soa : goal.invariant-loop-soa
invariant-loop-soa l = l.copies ≡ map (soa_of l.origin) (take l.soa-index l.soa-items)
