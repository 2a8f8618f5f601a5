-- Parts of names.
use Rattle.std.proofs.Common.{◌≡◌, Bool, ℕ, zero, suc, ◌+◌, ◌-◌, ◌*◌, ◌<◌, ◌≤◌, true, false, List, [], ◌∷◌, ◌++◌, length, take, drop, refl, sym, ap, ◌∙◌, arith, length-append}
use Rattle.std.specs.Prelude.{slice_get, Some, not}
use Rattle.std.specs.List.{AllByRecursion}
use Rattle.std.specs.Str.{bytes_eq, str_to_ascii_lowercase, str_eq_ignore_ascii_case}
use Rattle.std.specs.Bool.{IsTrue}
use Rattle.std.specs.Cmp.{both_ways}
use Rattle.std.proofs.lemmas.Slice.Eq.{bytes_eq-Decides}
use Rattle.std.proofs.lemmas.List.{take-append-drop}
use Rattle.dns_wire.specs.Name.{IsLabel, AreLabels, name_len}
use Rattle.dns_names.specs.Labels.{localhost_label, ends_in_localhost}
use Rattle.dns_names.proofs.IterLaws.{drop-at}

-- a label takes two bytes at least
each_two : (labels : List (List ℕ)) → AllByRecursion IsLabel labels → 2 * length labels + 1 ≤ name_len labels
each_two [] all = omega arith
each_two (l ∷ labels) all = let some : 0 < length l = all.0.some in omega (arith, each_two labels all.1)

pub few_labels : (labels : List (List ℕ)) → AreLabels labels → length labels < 128
few_labels labels are = omega (arith, each_two labels are.each, are.fits)

pub name_len-drop : (k : ℕ) (labels : List (List ℕ)) → name_len (drop k labels) ≤ name_len labels
name_len-drop zero labels = omega arith
name_len-drop (suc k) [] = omega arith
name_len-drop (suc k) (l ∷ labels) = omega (arith, name_len-drop k labels)

-- the last label
later : (x y : List ℕ) (labels : List (List ℕ)) (label : List ℕ) → slice_get (x ∷ y ∷ labels) (length (x ∷ y ∷ labels) - 1) ≡ Some label → slice_get (y ∷ labels) (length (y ∷ labels) - 1) ≡ Some label
later x y labels label e =
    let n : length (x ∷ y ∷ labels) - 1 ≡ suc (length (y ∷ labels) - 1) = omega arith in
    sym (ap (slice_get (x ∷ y ∷ labels)) n) ∙ e

pub last_is : (labels : List (List ℕ)) (label : List ℕ) → 0 < length labels → slice_get labels (length labels - 1) ≡ Some label → str_eq_ignore_ascii_case label localhost_label ≡ ends_in_localhost labels
last_is [] label some e = absurd (omega arith)
last_is (x ∷ []) label some e = let same : x ≡ label = cc in ap (λ (l : List ℕ). str_eq_ignore_ascii_case l localhost_label) (sym same)
last_is (x ∷ y ∷ labels) label some e = last_is (y ∷ labels) label (omega arith) (later x y labels label e)

-- ---- the last labels, case and all

pub drops_next : (a b : List (List ℕ)) (i k : ℕ) (x y : List ℕ) → slice_get a i ≡ Some x → slice_get b k ≡ Some y
    → x ≡ y → drop (i + 1) a ≡ drop (k + 1) b → drop i a ≡ drop k b
drops_next a b i k x y e f same rest =
    let p : i + 1 ≡ suc i = omega arith in
    let q : k + 1 ≡ suc k = omega arith in
    let others : drop (suc i) a ≡ drop (suc k) b = sym (ap (λ (n : ℕ). drop n a) p) ∙ rest ∙ ap (λ (n : ℕ). drop n b) q in
    drop-at a i x e ∙ ap (λ (l : List ℕ). l ∷ drop (suc i) a) same ∙ ap (λ (ls : List (List ℕ)). y ∷ ls) others ∙ sym (drop-at b k y f)

pub drops_first : (a b : List (List ℕ)) (i k : ℕ) (x y : List ℕ) → slice_get a i ≡ Some x → slice_get b k ≡ Some y → drop i a ≡ drop k b → x ≡ y
drops_first a b i k x y e f same = let l : x ∷ drop (suc i) a ≡ y ∷ drop (suc k) b = sym (drop-at a i x e) ∙ same ∙ drop-at b k y f in cc

pub drops_rest : (a b : List (List ℕ)) (i k : ℕ) (x y : List ℕ) → slice_get a i ≡ Some x → slice_get b k ≡ Some y → drop i a ≡ drop k b → drop (i + 1) a ≡ drop (k + 1) b
drops_rest a b i k x y e f same =
    let p : i + 1 ≡ suc i = omega arith in
    let q : k + 1 ≡ suc k = omega arith in
    let l : x ∷ drop (suc i) a ≡ y ∷ drop (suc k) b = sym (drop-at a i x e) ∙ same ∙ drop-at b k y f in
    let others : drop (suc i) a ≡ drop (suc k) b = cc in
    ap (λ (n : ℕ). drop n a) p ∙ others ∙ sym (ap (λ (n : ℕ). drop n b) q)

pub front_of : (own others : List (List ℕ)) (n : ℕ) → drop n others ≡ own → (front : List (List ℕ)) × (others ≡ front ++ own)
front_of own others n e = (take n others, sym (take-append-drop n others) ∙ ap (λ (ls : List (List ℕ)). take n others ++ ls) e)

drop-all : (front own : List (List ℕ)) → drop (length front) (front ++ own) ≡ own
drop-all [] own = refl
drop-all (f ∷ front) own = drop-all front own

pub drop_front : (own others front : List (List ℕ)) (n : ℕ) → length others ≡ n + length own → others ≡ front ++ own → drop n others ≡ own
drop_front own others front n len e =
    let many : n ≡ length front = omega (arith, ap length e, length-append front own) in
    ap (drop n) e ∙ ap (λ (k : ℕ). drop k (front ++ own)) many ∙ drop-all front own

-- ---- tests of labels

pub tests_alike : (x y : List ℕ) (r : Bool) → (IsTrue r → str_to_ascii_lowercase x ≡ str_to_ascii_lowercase y) → (str_to_ascii_lowercase x ≡ str_to_ascii_lowercase y → IsTrue r) → r ≡ str_eq_ignore_ascii_case x y
tests_alike x y r f g =
    let d = bytes_eq-Decides (str_to_ascii_lowercase x) (str_to_ascii_lowercase y) in
    both_ways r (str_eq_ignore_ascii_case x y) (λ t. d.1 (f t)) (λ t. g (d.0 t))

not-true : (b : Bool) → true ≡ not b → b ≡ true → ⊥
not-true true e f = cc
not-true false e f = cc

not-false : (b : Bool) → false ≡ not b → b ≡ true
not-false true e = refl
not-false false e = absurd (cc)

pub labels_differ : (x y : List ℕ) → true ≡ not (bytes_eq x y) → x ≡ y → ⊥
labels_differ x y e same = not-true (bytes_eq x y) e ((bytes_eq-Decides x y).1 same)

pub labels_same : (x y : List ℕ) → false ≡ not (bytes_eq x y) → x ≡ y
labels_same x y e = (bytes_eq-Decides x y).0 (not-false (bytes_eq x y) e)
