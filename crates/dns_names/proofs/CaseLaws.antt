-- Labels in lower case, as they are encoded: a length is no letter.
use Rattle.std.proofs.Common.{◌≡◌, ℕ, zero, suc, ◌<◌, Bool, List, [], ◌∷◌, ◌++◌, length, take, drop, map, refl, sym, ap, ◌∙◌, arith}
use Rattle.std.proofs.lemmas.List.{length-map, take_at, drop_at}
use Rattle.std.proofs.lemmas.Slice.Eq.{bytes_eq-Decides}
use Rattle.std.specs.Bool.{IsTrue}
use Rattle.std.specs.Prelude.{◌↔◌}
use Rattle.std.specs.Cmp.{both_ways}
use Rattle.dns_names.proofs.PartsLaws.{tests_alike}
use Rattle.std.proofs.lemmas.Bool.Decides.{nat_tests}
use Rattle.std.specs.Char.{to_ascii_lowercase}
use Rattle.std.specs.List.{AllByRecursion}
use Rattle.std.specs.Str.{str_to_ascii_lowercase, str_eq_ignore_ascii_case}
use Rattle.dns_wire.specs.Name.{IsLabel, AreLabels, name_len}
use Rattle.dns_wire.specs.Writing.{labels_form}
use Rattle.dns_names.specs.Compare.{lower, same_labels}
use Rattle.dns_names.proofs.ComparisonLaws.{same_labels-true, lower-same}
use Rattle.dns_names.proofs.WireLaws.{labels_form-map}

-- a number below 64 is no capital letter
no_letter : (n : ℕ) → n < 64 → to_ascii_lowercase n ≡ n
no_letter n small = grind (arith, nat_tests)

pub lower-form : (labels : List (List ℕ)) → AllByRecursion IsLabel labels → map to_ascii_lowercase (labels_form labels) ≡ labels_form (lower labels)
lower-form labels all = labels_form-map to_ascii_lowercase labels no_letter all

lower-each : (labels : List (List ℕ)) → AllByRecursion IsLabel labels → AllByRecursion IsLabel (lower labels)
lower-each [] all = tt
lower-each (l ∷ ls) all =
    let len = length-map l to_ascii_lowercase in
    (record { some = omega (arith, all.0.some); most = omega (arith, all.0.most) }, lower-each ls all.1)

name_len-lower : (labels : List (List ℕ)) → name_len (lower labels) ≡ name_len labels
name_len-lower [] = refl
name_len-lower (l ∷ ls) = omega (arith, length-map l to_ascii_lowercase, name_len-lower ls)

pub lower-are : (labels : List (List ℕ)) → AreLabels labels → AreLabels (lower labels)
lower-are labels are = record { each = lower-each labels are.each; fits = omega (arith, are.fits, name_len-lower labels) }

-- ---- labels that are encoded alike are the same

pub forms_same : (a b : List (List ℕ)) → labels_form a ≡ labels_form b → a ≡ b
forms_same [] [] e = refl
forms_same [] (y ∷ b) e = absurd (cc)
forms_same (x ∷ a) [] e = absurd (cc)
forms_same (x ∷ a) (y ∷ b) e =
    let len : length x ≡ length y = cc in
    let bytes : x ++ labels_form a ≡ y ++ labels_form b = cc in
    let first : x ≡ y = sym (take_at x (labels_form a) (length x) refl) ∙ ap (take (length x)) bytes ∙ take_at y (labels_form b) (length x) (sym len) in
    let others : labels_form a ≡ labels_form b = sym (drop_at x (labels_form a) (length x) refl) ∙ ap (drop (length x)) bytes ∙ drop_at y (labels_form b) (length x) (sym len) in
    let rest : a ≡ b = forms_same a b others in
    cc

pub same-form : (a b : List (List ℕ)) → AllByRecursion IsLabel a → AllByRecursion IsLabel b → str_eq_ignore_ascii_case (labels_form a) (labels_form b) ≡ same_labels a b
same-form a b all others =
    let decides = bytes_eq-Decides (str_to_ascii_lowercase (labels_form a)) (str_to_ascii_lowercase (labels_form b)) in
    both_ways (str_eq_ignore_ascii_case (labels_form a) (labels_form b)) (same_labels a b)
    (λ t. lower-same a b (forms_same (lower a) (lower b) (sym (lower-form a all) ∙ decides.0 t ∙ lower-form b others)))
    (λ t. decides.1 (lower-form a all ∙ ap labels_form (same_labels-true a b t) ∙ sym (lower-form b others)))

-- a test of the encodings, up to case, is one of the labels
pub tested : (x y : List ℕ) (a b : List (List ℕ)) (r : Bool) → x ≡ labels_form a → y ≡ labels_form b → AllByRecursion IsLabel a → AllByRecursion IsLabel b
    → IsTrue r ↔ (str_to_ascii_lowercase x ≡ str_to_ascii_lowercase y) → r ≡ same_labels a b
tested x y a b r form other all others test =
    tests_alike x y r test.0 test.1 ∙ ap (λ (l : List ℕ). str_eq_ignore_ascii_case l y) form ∙ ap (str_eq_ignore_ascii_case (labels_form a)) other ∙ same-form a b all others

pub each-drop : (n : ℕ) (labels : List (List ℕ)) → AllByRecursion IsLabel labels → AllByRecursion IsLabel (drop n labels)
each-drop zero labels all = all
each-drop (suc n) [] all = tt
each-drop (suc n) (l ∷ labels) all = each-drop n labels all.1
