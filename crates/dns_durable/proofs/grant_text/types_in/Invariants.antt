use Rattle.std.proofs.Common.{◌≡◌, [], length, map}
use Rattle.dns_durable.specs.GrantText.{types_after}
use Rattle.dns_durable.proofs.grant_text.types_in.Given as goal

-- the words that are left complete the types
abbrev pub invariant-loop-rest : goal.invariant-loop-rest
invariant-loop-rest l = types_after l.types.items (map (λ word. word.now) l.rest) ≡ types_after [] (map (λ word. word.now) l.fn.words)

abbrev pub decreases-loop-rest : goal.decreases-loop-rest
decreases-loop-rest l = length l.rest
