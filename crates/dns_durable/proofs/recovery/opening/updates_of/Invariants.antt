use Rattle.std.proofs.Common.{◌≡◌, ◌++◌, length, map}
use Rattle.dns_durable.specs.recovery.Compacting.{updates_in}
use Rattle.dns_durable.proofs.recovery.opening.updates_of.Given as goal

-- the updates of the payloads that are left complete the list
abbrev pub invariant-loop-rest : goal.invariant-loop-rest
invariant-loop-rest l =
    map (λ u. u.now) l.updates.items ++ updates_in (map (λ p. p.now) l.rest) ≡ updates_in (map (λ p. p.now) l.fn.payloads)

abbrev pub decreases-loop-rest : goal.decreases-loop-rest
decreases-loop-rest l = length l.rest
