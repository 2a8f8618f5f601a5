use Rattle.std.proofs.Common.{◌≡◌, map, take}
use Rattle.dns_authority.proofs.CopyLaws.{copy_of}
use Rattle.dns_authority.proofs.copies.copies.Given as goal

abbrev pub invariant-loop-record : goal.invariant-loop-record
invariant-loop-record l = l.copies ≡ map (copy_of l.owner) (take l.record-index l.stored)
