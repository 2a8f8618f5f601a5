use Rattle.std.proofs.Common.{◌≡◌, ◌+◌, length}
use Rattle.dns_tsig.specs.Verify.{verdict_from}
use Rattle.dns_tsig.proofs.verify.verdict_by_keys.Given as goal

-- the keys that are left decide, and each has its index
abbrev pub invariant-loop-rest : goal.invariant-loop-rest
invariant-loop-rest l = record {
  decides : verdict_from l.index l.rest l.request l.signature l.now ≡ verdict_from 0 l.fn.keys l.request l.signature l.now;
  counted : l.index + length l.rest ≡ length l.fn.keys;
}

abbrev pub decreases-loop-rest : goal.decreases-loop-rest
decreases-loop-rest l = length l.rest
