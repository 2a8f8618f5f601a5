use Rattle.std.proofs.Common.{◌≤◌, ℕ, length, map, subst, sym}
use Rattle.dns_faults.specs.table.Text.{words_of}
use Rattle.dns_faults.proofs.WordLaws.{word-within, words-go-on}
use Rattle.dns_faults.proofs.table.text.words_of.Goals as goal

pub split_at-requires : goal.split_at-requires
split_at-requires c =
    subst (λ (n : ℕ). n ≤ length c.loop-rest.rest.now) (sym c.word_len.ensures) (word-within c.loop-rest.rest.now)

pub loop-rest-preserved : goal.loop-rest-preserved
loop-rest-preserved c =
    words-go-on (map (λ word. word.now) c.loop-rest.words.items) (map (λ word. word.now) c.push_word.new.words.items) c.loop-rest.rest.now
    c.split_at.result.0.now c.split_at.result.1.now c.after_blank-rest.result.now c.word_len.result (words_of c.args.text.now)
    c.word_len.ensures c.split_at.ensures.front c.split_at.ensures.back c.after_blank-rest.ensures c.in_ok-push_word.ensures
    c.loop-rest.invariant
