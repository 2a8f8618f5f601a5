use Rattle.std.proofs.Common.{◌≡◌}
use Rattle.dns_updates.specs.internal.OwnerKeys.{front}
use Rattle.dns_updates.proofs.keys.front.Given as goal

abbrev pub invariant-loop-i : goal.invariant-loop-i
invariant-loop-i l = l.number ≡ front l.i l.bytes
