-- Names compared up to ASCII case.
use Rattle.std.proofs.Common.{◌≡◌, ℕ, zero, suc, ◌+◌, ◌<◌, Bool, true, false, ◌&&◌, ◌||◌, List, [], ◌∷◌, length, drop, refl, sym, ap, ◌∙◌, add-one, arith}
use Rattle.std.specs.Prelude.{slice_get, Some}
use Rattle.std.specs.Bool.{Decides}
use Rattle.std.specs.Str.{str_to_ascii_lowercase, str_eq_ignore_ascii_case}
use Rattle.std.specs.Char.{to_ascii_lowercase}
use Rattle.std.proofs.lemmas.Str.Ascii.{lowercase-lowercase}
use Rattle.std.proofs.lemmas.Slice.Eq.{bytes_eq-Decides}
use Rattle.std.proofs.lemmas.List.{length-map}
use Rattle.dns_names.specs.Compare.{lower, same_labels, at_or_below}

-- ---- what the same means

and-true : (a b : Bool) → (a && b) ≡ true → (a ≡ true) × (b ≡ true)
and-true true b e = (refl, e)
and-true false b e = absurd (cc)

pub same_labels-true : (a b : List (List ℕ)) → same_labels a b ≡ true → lower a ≡ lower b
same_labels-true [] [] e = refl
same_labels-true [] (y ∷ ys) e = absurd (cc)
same_labels-true (x ∷ xs) [] e = absurd (cc)
same_labels-true (x ∷ xs) (y ∷ ys) e =
    let both = and-true (str_eq_ignore_ascii_case x y) (same_labels xs ys) e in
    let first : str_to_ascii_lowercase x ≡ str_to_ascii_lowercase y = (bytes_eq-Decides (str_to_ascii_lowercase x) (str_to_ascii_lowercase y)).0 both.0 in
    let others : lower xs ≡ lower ys = same_labels-true xs ys both.1 in
    cc

pub lower-same : (a b : List (List ℕ)) → lower a ≡ lower b → same_labels a b ≡ true
lower-same [] [] e = refl
lower-same [] (y ∷ ys) e = absurd (cc)
lower-same (x ∷ xs) [] e = absurd (cc)
lower-same (x ∷ xs) (y ∷ ys) e =
    let first : str_to_ascii_lowercase x ≡ str_to_ascii_lowercase y = cc in
    let others : lower xs ≡ lower ys = cc in
    let same : str_eq_ignore_ascii_case x y ≡ true = (bytes_eq-Decides (str_to_ascii_lowercase x) (str_to_ascii_lowercase y)).1 first in
    rw same (lower-same xs ys others)

pub same_labels-Decides : (a b : List (List ℕ)) → Decides (same_labels a b) (lower a ≡ lower b)
same_labels-Decides a b = (same_labels-true a b, lower-same a b)

pub same_labels-itself : (a : List (List ℕ)) → same_labels a a ≡ true
same_labels-itself a = lower-same a a refl

or-false : (p : Bool) → (p || false) ≡ p
or-false true = refl
or-false false = refl

both_ways : (p q : Bool) → (p ≡ true → q ≡ true) → (q ≡ true → p ≡ true) → p ≡ q
both_ways true q f g = sym (f refl)
both_ways false true f g = g refl
both_ways false false f g = refl

pub same_labels-symmetric : (a b : List (List ℕ)) → same_labels a b ≡ same_labels b a
same_labels-symmetric a b = both_ways (same_labels a b) (same_labels b a) (λ e. lower-same b a (sym (same_labels-true a b e))) (λ e. lower-same a b (sym (same_labels-true b a e)))

pub same_labels-lower : (a b p q : List (List ℕ)) → lower a ≡ lower p → lower b ≡ lower q → same_labels a b ≡ same_labels p q
same_labels-lower a b p q e f = both_ways (same_labels a b) (same_labels p q) (λ s. lower-same p q (sym e ∙ same_labels-true a b s ∙ f)) (λ s. lower-same a b (e ∙ same_labels-true p q s ∙ sym f))

-- ---- label by label

drop-get : (labels : List (List ℕ)) (i : ℕ) (label : List ℕ) → slice_get labels i ≡ Some label → drop i labels ≡ label ∷ drop (suc i) labels
drop-get [] i label e = absurd (cc)
drop-get (l ∷ ls) zero label e = let same : l ≡ label = cc in cc
drop-get (l ∷ ls) (suc i) label e = drop-get ls i label e

-- two labels, and then those behind them
pub same_labels-next : (a b : List (List ℕ)) (i k : ℕ) (x y : List ℕ) → slice_get a i ≡ Some x → slice_get b k ≡ Some y
    → same_labels (drop i a) (drop k b) ≡ (str_eq_ignore_ascii_case x y && same_labels (drop (i + 1) a) (drop (k + 1) b))
same_labels-next a b i k x y e f = rw (drop-get a i x e, drop-get b k y f, add-one, add-one) refl

pub same_text : (x y : List ℕ) → str_to_ascii_lowercase x ≡ str_to_ascii_lowercase y → str_eq_ignore_ascii_case x y ≡ true
same_text x y e = (bytes_eq-Decides (str_to_ascii_lowercase x) (str_to_ascii_lowercase y)).1 e

pub other_text : (x y : List ℕ) → (str_to_ascii_lowercase x ≡ str_to_ascii_lowercase y → ⊥) → str_eq_ignore_ascii_case x y ≡ false
other_text x y n = at (str_eq_ignore_ascii_case x y) refl
  where
    at : (r : Bool) → str_eq_ignore_ascii_case x y ≡ r → r ≡ false
    at true e = absurd (n ((bytes_eq-Decides (str_to_ascii_lowercase x) (str_to_ascii_lowercase y)).0 e))
    at false e = refl

-- ---- lower case again

label-twice : (l : List ℕ) → str_to_ascii_lowercase (str_to_ascii_lowercase l) ≡ str_to_ascii_lowercase l
label-twice [] = refl
label-twice (c ∷ cs) = let first : to_ascii_lowercase (to_ascii_lowercase c) ≡ to_ascii_lowercase c = lowercase-lowercase c in let others : str_to_ascii_lowercase (str_to_ascii_lowercase cs) ≡ str_to_ascii_lowercase cs = label-twice cs in cc

pub lower-twice : (a : List (List ℕ)) → lower (lower a) ≡ lower a
lower-twice [] = refl
lower-twice (l ∷ ls) = let first : str_to_ascii_lowercase (str_to_ascii_lowercase l) ≡ str_to_ascii_lowercase l = label-twice l in let others : lower (lower ls) ≡ lower ls = lower-twice ls in cc

-- ---- zones

pub at_or_below-lower : (o p a b : List (List ℕ)) → lower o ≡ lower p → lower a ≡ lower b → at_or_below o a ≡ at_or_below p b
at_or_below-lower o p [] [] e f = same_labels-lower o [] p [] e refl
at_or_below-lower o p [] (y ∷ ys) e f = absurd (cc)
at_or_below-lower o p (x ∷ xs) [] e f = absurd (cc)
at_or_below-lower o p (x ∷ xs) (y ∷ ys) e f =
    let others : lower xs ≡ lower ys = cc in
    let first : same_labels o (x ∷ xs) ≡ same_labels p (y ∷ ys) = same_labels-lower o (x ∷ xs) p (y ∷ ys) e f in
    let below : at_or_below o xs ≡ at_or_below p ys = at_or_below-lower o p xs ys e others in
    cc

-- the labels are as many
pub same_labels-length : (a b : List (List ℕ)) → same_labels a b ≡ true → length a ≡ length b
same_labels-length a b e = sym (length-map a str_to_ascii_lowercase) ∙ ap length (same_labels-true a b e) ∙ length-map b str_to_ascii_lowercase

differ : (a b : List (List ℕ)) → (length a ≡ length b → ⊥) → same_labels a b ≡ false
differ a b n = at (same_labels a b) refl
  where
    at : (r : Bool) → same_labels a b ≡ r → r ≡ false
    at true e = absurd (n (same_labels-length a b e))
    at false e = refl

-- fewer labels than the origin don't lie below it
pub too_short : (o a : List (List ℕ)) → length a < length o → at_or_below o a ≡ false
too_short o [] lt = differ o [] (λ e. omega arith)
too_short o (x ∷ xs) lt =
    let here : same_labels o (x ∷ xs) ≡ false = differ o (x ∷ xs) (λ e. omega arith) in
    let below : at_or_below o xs ≡ false = too_short o xs (omega arith) in
    rw (here, below) refl

-- labels lie at or below an origin where their last labels are its
pub zone_by_last : (o a : List (List ℕ)) (n : ℕ) → length a ≡ n + length o → at_or_below o a ≡ same_labels o (drop n a)
zone_by_last o [] zero e = refl
zone_by_last o [] (suc n) e = absurd (omega arith)
zone_by_last o (x ∷ xs) zero e =
    let below : at_or_below o xs ≡ false = too_short o xs (omega arith) in
    rw below (or-false (same_labels o (x ∷ xs)))
zone_by_last o (x ∷ xs) (suc n) e =
    let here : same_labels o (x ∷ xs) ≡ false = differ o (x ∷ xs) (λ f. omega arith) in
    rw here (zone_by_last o xs n (omega arith))
