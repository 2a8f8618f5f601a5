-- The order of labels is total, and agrees with their equality and their hash.
use Rattle.std.proofs.Common.{◌≡◌, ℕ, Some, true, List, sym, ap, ◌∙◌}
use Rattle.std.specs.Ordering.{nat_cmp, is_eq}
use Rattle.std.specs.declared.cmp.Ordering.TheVariants.{Equal}
use Rattle.std.specs.Char.{to_ascii_lowercase}
use Rattle.std.specs.Cmp.{IsEquivalence, IsPartialEquivalence, IsTotalOrder, IsPartialOrder, partial_equiv_from_equiv, on_equiv, nat_cmp_total, tied_itself, both_ways, po}
use Rattle.std.specs.Cmp.Lexicographic.{slice_cmp, lists_total, nat_list_eq_equiv}
use Rattle.std.specs.Str.{str_to_ascii_lowercase, str_eq_ignore_ascii_case}
use Rattle.std.proofs.lemmas.Slice.Eq.{bytes_eq-Decides}
use Rattle.dns_names.specs.internal.Compare.{lower_cmp-total, through, bytes_equal, is_eq-true}
use Rattle.dns_names.specs.LabelCompare.{label_cmp, label_hash, label_writes}

pub same_label-equivalence : IsEquivalence str_eq_ignore_ascii_case
same_label-equivalence = on_equiv str_to_ascii_lowercase nat_list_eq_equiv

pub same_label-partial : IsPartialEquivalence str_eq_ignore_ascii_case
same_label-partial = partial_equiv_from_equiv same_label-equivalence

pub label_cmp-total : IsTotalOrder label_cmp
label_cmp-total = lists_total lower_cmp-total

in_lower : (x y : List ℕ) → label_cmp x y ≡ slice_cmp nat_cmp (str_to_ascii_lowercase x) (str_to_ascii_lowercase y)
in_lower = through to_ascii_lowercase nat_cmp

same-lower : (x y : List ℕ) → str_eq_ignore_ascii_case x y ≡ true → str_to_ascii_lowercase x ≡ str_to_ascii_lowercase y
same-lower x y = (bytes_eq-Decides (str_to_ascii_lowercase x) (str_to_ascii_lowercase y)).0

tie : (x y : List ℕ) → str_to_ascii_lowercase x ≡ str_to_ascii_lowercase y → label_cmp x y ≡ Equal
tie x y e =
    in_lower x y ∙ ap (λ (l : List ℕ). slice_cmp nat_cmp l (str_to_ascii_lowercase y)) e
    ∙ tied_itself (lists_total nat_cmp_total) (str_to_ascii_lowercase y)

untie : (x y : List ℕ) → label_cmp x y ≡ Equal → str_to_ascii_lowercase x ≡ str_to_ascii_lowercase y
untie x y e = bytes_equal (str_to_ascii_lowercase x) (str_to_ascii_lowercase y) (sym (in_lower x y) ∙ e)

pub labels_agree : (x y : List ℕ) → str_eq_ignore_ascii_case x y ≡ is_eq (label_cmp x y)
labels_agree x y = both_ways (str_eq_ignore_ascii_case x y) (is_eq (label_cmp x y))
    (λ s. ap is_eq (tie x y (same-lower x y s)))
    (λ e. (bytes_eq-Decides (str_to_ascii_lowercase x) (str_to_ascii_lowercase y)).1 (untie x y (is_eq-true (label_cmp x y) e)))

pub label_cmp-partial : IsPartialOrder str_eq_ignore_ascii_case (λ x y. Some (label_cmp x y))
label_cmp-partial = po label_cmp-total labels_agree

pub labels_hashed_alike : (x y : List ℕ) → str_eq_ignore_ascii_case x y ≡ true → label_hash x ≡ label_hash y
labels_hashed_alike x y e = ap label_writes (same-lower x y e)
