-- The words of a line, one after another.
use Rattle.std.proofs.Common.{◌≡◌, ◌≤◌, ◌+◌, ◌++◌, ℕ, Bool, true, false, cond, List, [], ◌∷◌, suc, take, drop, length, Some, None, refl, sym, ap, subst, ◌∙◌, arith, append_assoc, append-nil}
use Rattle.std.specs.Prelude.{nat_lt, not}
use Rattle.std.specs.List.{position, position_or_len}
use Rattle.std.proofs.lemmas.Bool.Decides.{nat_tests}
use Rattle.dns_faults.specs.table.Text.{is_blank, word_before, words_after}

-- a text begins with the rest of the open word, up to the first blank, which is skipped
pub words-front : (word text : List ℕ)
    → words_after word text ≡ word_before (word ++ take (position_or_len is_blank text) text) (words_after [] (drop 1 (drop (position_or_len is_blank text) text)))
words-front word [] = ap (λ (w : List ℕ). word_before w []) (sym (append-nil word))
words-front word (c ∷ cs) = by_first (is_blank c) (words-front (word ++ c ∷ []) cs)
  where
    by_first : (b : Bool)
        → words_after (word ++ c ∷ []) cs ≡ word_before ((word ++ c ∷ []) ++ take (position_or_len is_blank cs) cs) (words_after [] (drop 1 (drop (position_or_len is_blank cs) cs)))
        → cond b (word_before word (words_after [] cs)) (words_after (word ++ c ∷ []) cs)
        ≡ word_before (word ++ take (cond (not b) (1 + position_or_len is_blank cs) 0) (c ∷ cs))
        (words_after [] (drop 1 (drop (cond (not b) (1 + position_or_len is_blank cs) 0) (c ∷ cs))))
    by_first true h = ap (λ (w : List ℕ). word_before w (words_after [] cs)) (sym (append-nil word))
    by_first false h =
        let next : 1 + position_or_len is_blank cs ≡ suc (position_or_len is_blank cs) = omega arith in
        h ∙ ap (λ (w : List ℕ). word_before w (words_after [] (drop 1 (drop (position_or_len is_blank cs) cs))))
        (append_assoc word (c ∷ []) (take (position_or_len is_blank cs) cs))
        ∙ sym (ap (λ (k : ℕ). word_before (word ++ take k (c ∷ cs)) (words_after [] (drop 1 (drop k (c ∷ cs))))) next)

-- a word comes before others
pub word-first : (word : List ℕ) (words : List (List ℕ)) → word_before word words ≡ word_before word [] ++ words
word-first [] words = refl
word-first (c ∷ cs) words = refl

-- a further word, and the rest behind its blank, complete the words
pub words-go-on : (done more : List (List ℕ)) (rest word left after : List ℕ) (n : ℕ) (all : List (List ℕ)) → n ≡ position_or_len is_blank rest
    → word ≡ take n rest → left ≡ drop n rest → after ≡ drop 1 left → more ≡ done ++ word_before word []
    → done ++ words_after [] rest ≡ all → more ++ words_after [] after ≡ all
words-go-on done more rest word left after n all h w l a m e =
    let at_n : words_after [] rest ≡ word_before (take n rest) (words_after [] (drop 1 (drop n rest))) =
    subst (λ (k : ℕ). words_after [] rest ≡ word_before (take k rest) (words_after [] (drop 1 (drop k rest)))) (sym h) (words-front [] rest) in
    let here : words_after [] rest ≡ word_before word (words_after [] after) =
    at_n ∙ ap (λ (x : List ℕ). word_before x (words_after [] (drop 1 (drop n rest)))) (sym w)
    ∙ ap (λ (x : List ℕ). word_before word (words_after [] x)) (sym (a ∙ ap (λ (y : List ℕ). drop 1 y) l)) in
    ap (λ (ws : List (List ℕ)). ws ++ words_after [] after) m
    ∙ append_assoc done (word_before word []) (words_after [] after)
    ∙ ap (λ (ws : List (List ℕ)). done ++ ws) (sym (here ∙ word-first word (words_after [] after))) ∙ e

-- ---- the length of a word

some-of : (b : Bool) (k i : ℕ) → Some i ≡ cond b (Some k) None → i ≡ k
some-of true k i h = grind (arith, h)
some-of false k i h = grind (arith, h)

none-of : (b : Bool) (k n : ℕ) → nat_lt k n ≡ b → None ≡ cond b (Some k) None → k ≤ n → n ≡ k
none-of true k n e h l = grind (arith, h)
none-of false k n e h l = grind (arith, nat_tests, e, l)

-- a word ends at the first blank
pub place-is : (text : List ℕ) (i : ℕ) → Some i ≡ position is_blank text → i ≡ position_or_len is_blank text
place-is text i h = some-of (nat_lt (position_or_len is_blank text) (length text)) (position_or_len is_blank text) i h

-- no word is longer than the text
pub word-within : (text : List ℕ) → position_or_len is_blank text ≤ length text
word-within [] = omega arith
word-within (c ∷ cs) = by_first (is_blank c) (word-within cs)
  where
    by_first : (b : Bool) → position_or_len is_blank cs ≤ length cs → cond (not b) (1 + position_or_len is_blank cs) 0 ≤ suc (length cs)
    by_first true h = omega arith
    by_first false h = omega (arith, h)

-- without a blank, the word is the text
pub no-place : (text : List ℕ) → None ≡ position is_blank text → length text ≡ position_or_len is_blank text
no-place text h =
    none-of (nat_lt (position_or_len is_blank text) (length text)) (position_or_len is_blank text) (length text) refl h (word-within text)
