use Rattle.std.proofs.Common.{◌≡◌, ◌↔◌, take}
use Rattle.dns_tsig.proofs.hmac.compare.is_same.Given as goal

-- the difference is zero exactly if the bytes before the index are equal
abbrev pub invariant-loop-i : goal.invariant-loop-i
invariant-loop-i l = (l.difference ≡ 0) ↔ (take l.i l.code ≡ take l.i l.other)
