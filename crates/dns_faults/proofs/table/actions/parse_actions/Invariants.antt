use Rattle.std.proofs.Common.{◌≡◌, length, map}
use Rattle.dns_faults.specs.table.Actions.{actions_of, after_words}
use Rattle.dns_faults.proofs.table.actions.parse_actions.Given as goal

-- the words that are left complete the actions so far to those of all words
abbrev pub invariant-loop-rest : goal.invariant-loop-rest
invariant-loop-rest l =
    after_words l.actions (map (λ word. word.now) l.rest) ≡ actions_of (map (λ word. word.now) l.words)

abbrev pub decreases-loop-rest : goal.decreases-loop-rest
decreases-loop-rest l = length l.rest
