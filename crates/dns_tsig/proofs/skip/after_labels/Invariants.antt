use Rattle.std.proofs.Common.{◌≡◌, length}
use Rattle.dns_tsig.specs.Skip.{after_labels}
use Rattle.dns_tsig.proofs.skip.after_labels.Given as goal

-- the labels of the rest end where those of the bytes do
abbrev pub invariant-loop-rest : goal.invariant-loop-rest
invariant-loop-rest l = after_labels 0 l.rest ≡ after_labels 0 l.fn.bytes

abbrev pub decreases-loop-rest : goal.decreases-loop-rest
decreases-loop-rest l = length l.rest
