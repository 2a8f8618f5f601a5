use Rattle.std.proofs.Common.{◌≡◌, [], length, map}
use Rattle.dns_durable.specs.recovery.Compacting.{last_after}
use Rattle.dns_durable.proofs.recovery.opening.last_payload.Given as goal

-- the last of the payloads that are left is that of all
abbrev pub invariant-loop-rest : goal.invariant-loop-rest
invariant-loop-rest l = last_after l.last (map (λ p. p.now) l.rest) ≡ last_after [] (map (λ p. p.now) l.fn.payloads)

abbrev pub decreases-loop-rest : goal.decreases-loop-rest
decreases-loop-rest l = length l.rest
