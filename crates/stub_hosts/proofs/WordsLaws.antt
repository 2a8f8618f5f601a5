-- The words of a text, as `split_whitespace` yields them.
use Rattle.std.proofs.Common.{◌≡◌, ℕ, ◌<◌, Bool, true, false, List, [], ◌∷◌, ◌++◌, length, refl, ap, sym, ◌∙◌, subst, append_assoc, append-nil, arith, length-append}
use Rattle.std.specs.Prelude.{map, ◌&&◌}
use Rattle.std.specs.List.{filter, slice_split, All}
use Rattle.std.specs.Char.{is_whitespace, is_not_whitespace, encode_utf8}
use Rattle.std.specs.Str.{chars, encode_utf8_all, all_scalars, IsUtf8, NonePass, NoCharPasses, EmptyOrStartsWithPassing}
use Rattle.std.proofs.lemmas.List.Splits.{slice_split-cons_yes, slice_split_none, slice_split_at}
use Rattle.std.proofs.lemmas.List.Elements.{All-cons, All-nil}
use Rattle.std.proofs.lemmas.Str.{cons_from_encodes, chars_from_encodes, encode_same, length-encode, len_utf8_bounds}
use Rattle.std.proofs.lemmas.Bool.{not-false}
use Rattle.stub_hosts.specs.HostsFile.{words, is_word}

-- the parts of characters between white space that are not empty
abbrev some_only : List (List ℕ) → List (List ℕ)
some_only parts = filter is_word parts

abbrev kept : List ℕ → List (List ℕ)
kept cs = some_only (slice_split is_whitespace cs)

-- white space in front separates nothing
kept_gap : (gs es : List ℕ) → NonePass is_not_whitespace gs → kept (gs ++ es) ≡ kept es
kept_gap [] es none = refl
kept_gap (g ∷ gs) es none = rw (slice_split-cons_yes is_whitespace g (gs ++ es) (not-false _ none.0)) (kept_gap gs es none.1)

all_fail : (p : ℕ → Bool) (cs : List ℕ) → NonePass p cs → All (λ c. p c ≡ false) cs
all_fail p [] none = All-nil (λ c. p c ≡ false)
all_fail p (c ∷ cs) none = All-cons (λ c. p c ≡ false) c cs none.0 (all_fail p cs none.1)

-- what follows a word: nothing, or white space
abbrev StartsWhite : List ℕ → Type 0
StartsWhite [] = Unit {0}
StartsWhite (d ∷ ds) = is_whitespace d ≡ true

kept_word : (c : ℕ) (ws es : List ℕ) → NonePass is_whitespace (c ∷ ws) → StartsWhite es → kept ((c ∷ ws) ++ es) ≡ (c ∷ ws) ∷ kept es
kept_word c ws [] none white =
    ap kept (append-nil (c ∷ ws)) ∙ ap some_only (slice_split_none is_whitespace (c ∷ ws) (all_fail is_whitespace (c ∷ ws) none))
kept_word c ws (d ∷ es) none white =
    ap some_only (slice_split_at is_whitespace (c ∷ ws) d es (all_fail is_whitespace (c ∷ ws) none) white)
    ∙ ap (λ x. (c ∷ ws) ∷ some_only x) (sym (slice_split-cons_yes is_whitespace d es white))

-- ---- the characters behind a text's front

and_right : (a b : Bool) → (a && b) ≡ true → b ≡ true
and_right true b e = e
and_right false b e = absurd (cc)

record Behind (gs cs tail : List ℕ) : Type 0 where
  pub left : List ℕ
  pub split : cs ≡ gs ++ left
  pub spell : encode_utf8_all left ≡ tail
  pub scalar : all_scalars left ≡ true

behind : (gs cs tail : List ℕ) → all_scalars cs ≡ true → encode_utf8_all cs ≡ encode_utf8_all gs ++ tail → Behind gs cs tail
behind [] cs tail scalar e = record { left = cs; split = refl; spell = e; scalar = scalar }
behind (g ∷ gs) cs tail scalar e =
    let first = cons_from_encodes cs (encode_utf8_all gs ++ tail) g (e ∙ append_assoc (encode_utf8 g) (encode_utf8_all gs) tail) in
    let scalars' : all_scalars (g ∷ first.0) ≡ true = subst (λ (x : List ℕ). all_scalars x ≡ true) first.1 scalar in
    let more = behind gs first.0 tail (and_right _ _ scalars') first.2 in
    record { left = more.left; split = first.1 ∙ ap (λ x. g ∷ x) more.split; spell = more.spell; scalar = more.scalar }

white_start : (es rest more : List ℕ) → encode_utf8_all es ≡ rest → EmptyOrStartsWithPassing is_whitespace rest more → StartsWhite es
white_start [] rest more e starts = tt
white_start (d ∷ es) rest more e starts =
    let some : 0 < length rest = omega (arith, ap length e, length-append (encode_utf8 d) (encode_utf8_all es), length-encode d, (len_utf8_bounds d).0) in
    let start = starts some in
    let same = encode_same d start.0 (encode_utf8_all es) more (e ∙ start.2) in
    subst (λ x. is_whitespace x ≡ true) (sym same.0) start.1

-- ---- the words of a text

pub record OneWord (bs w rest : List ℕ) : Type 0 where
  pub utf8 : IsUtf8 rest
  pub words_are : words bs ≡ w ∷ words rest

word_then : (gs ws cs : List ℕ) (bs w rest more : List ℕ) → IsUtf8 bs → all_scalars cs ≡ true → encode_utf8_all cs ≡ bs
    → NonePass is_not_whitespace gs → NonePass is_whitespace ws → encode_utf8_all ws ≡ w → 0 < length w
    → bs ≡ encode_utf8_all gs ++ (w ++ rest) → EmptyOrStartsWithPassing is_whitespace rest more → OneWord bs w rest
unfolding words
word_then gs [] cs bs w rest more utf8 scalar spell gap word is_w some split starts = absurd (omega (arith, ap length is_w))
word_then gs (c ∷ ws) cs bs w rest more utf8 scalar spell gap word is_w some split starts =
    let after_gap = behind gs cs (w ++ rest) scalar (spell ∙ split) in
    let after_word = behind (c ∷ ws) after_gap.left rest after_gap.scalar (after_gap.spell ∙ ap (λ x. x ++ rest) (sym is_w)) in
    let utf8_rest : IsUtf8 rest = (after_word.left, (after_word.scalar, after_word.spell)) in
    let all : cs ≡ gs ++ ((c ∷ ws) ++ after_word.left) = after_gap.split ∙ ap (λ x. gs ++ x) after_word.split in
    let here : chars bs ≡ gs ++ ((c ∷ ws) ++ after_word.left) = sym (chars_from_encodes cs bs utf8 spell) ∙ all in
    let there : after_word.left ≡ chars rest = chars_from_encodes after_word.left rest utf8_rest after_word.spell in
    let kept_are : kept (chars bs) ≡ (c ∷ ws) ∷ kept (chars rest) =
    ap kept here ∙ (kept_gap gs ((c ∷ ws) ++ after_word.left) gap
    ∙ (kept_word c ws after_word.left word (white_start after_word.left rest more after_word.spell starts)
    ∙ ap (λ x. (c ∷ ws) ∷ kept x) there)) in
    record {
      utf8 = utf8_rest;
      words_are = ap (λ x. map encode_utf8_all x) kept_are ∙ ap (λ x. x ∷ map encode_utf8_all (kept (chars rest))) is_w;
    }

-- a step of `split_whitespace` that yields a word
pub word_from_step : (bs all w rest : List ℕ) → IsUtf8 bs → all ≡ bs
    → (gap : List ℕ) × (all ≡ gap ++ (w ++ rest)) × (0 < length w) × NoCharPasses is_not_whitespace gap × NoCharPasses is_whitespace w
    × ((more : List ℕ) × EmptyOrStartsWithPassing is_whitespace rest more) → OneWord bs w rest
word_from_step bs all w rest utf8 same step =
    let is_gap = step.3 in
    let is_word = step.4 in
    let starts = step.5 in
    word_then is_gap.0 is_word.0 utf8.0 bs w rest starts.0 utf8 utf8.1.0 utf8.1.1 is_gap.2 is_word.2 is_word.1 step.2
    (sym same ∙ (step.1 ∙ ap (λ x. x ++ (w ++ rest)) (sym is_gap.1))) starts.1

-- white space alone has no words
pub no_words : (bs : List ℕ) → IsUtf8 bs → NoCharPasses is_not_whitespace bs → words bs ≡ []
unfolding words
no_words bs utf8 blank =
    let here : chars bs ≡ blank.0 ++ [] = sym (chars_from_encodes blank.0 bs utf8 blank.1) ∙ sym (append-nil blank.0) in
    ap (λ x. map encode_utf8_all (kept x)) here ∙ ap (λ x. map encode_utf8_all x) (kept_gap blank.0 [] blank.2)
