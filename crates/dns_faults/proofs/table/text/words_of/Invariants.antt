use Rattle.std.proofs.Common.{◌≡◌, ◌++◌, [], length, map}
use Rattle.dns_faults.specs.table.Text.{words_after, words_of}
use Rattle.dns_faults.proofs.table.text.words_of.Given as goal

-- the words of the rest follow those so far
abbrev pub invariant-loop-rest : goal.invariant-loop-rest
invariant-loop-rest l =
    map (λ word. word.now) l.words.items ++ words_after [] l.rest ≡ words_of l.fn.text

abbrev pub decreases-loop-rest : goal.decreases-loop-rest
decreases-loop-rest l = length l.rest
