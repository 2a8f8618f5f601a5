-- The offsets at which labels are encoded.
use Rattle.std.proofs.Common.{◌≡◌, ℕ, zero, suc, ◌+◌, ◌*◌, ◌<◌, ◌≤◌, get_or, set, List, [], ◌∷◌, length, take, ap, arith}
use Rattle.std.specs.List.{AllByRecursion}
use Rattle.dns_wire.specs.Name.{IsLabel, AreLabels, name_len}
use Rattle.dns_wire.specs.Writing.{labels_form}
use Rattle.dns_wire.proofs.NameLaws.{length-labels_form}
use Rattle.dns_names.proofs.WireLaws.{front_le, front-next, len_after}

-- a label and its length take two bytes at least
many : (labels : List (List ℕ)) → AllByRecursion IsLabel labels → 2 * length labels + 1 ≤ name_len labels
many [] all = omega arith
many (label ∷ labels) all = omega (arith, many labels all.1, all.0.some)

pub few : (labels : List (List ℕ)) → AreLabels labels → length labels ≤ 127
few labels are = omega (arith, many labels are.each, are.fits)

pub form_len : (labels : List (List ℕ)) → AreLabels labels → length (labels_form labels) < 255
form_len labels are = omega (arith, length-labels_form labels, are.fits)

pub offset_small : (labels : List (List ℕ)) (i : ℕ) → AreLabels labels → length (labels_form (take i labels)) < 255
offset_small labels i are = omega (arith, front_le i labels, form_len labels are)

pub offset_within : (labels : List (List ℕ)) (i : ℕ) → i < length labels → length (labels_form (take i labels)) < length (labels_form labels)
offset_within labels i lt = omega (arith, front-next labels i lt, front_le (i + 1) labels)

pub offset_next : (wire : List ℕ) (labels : List (List ℕ)) (i offset : ℕ) → wire ≡ labels_form labels → i < length labels → offset ≡ length (labels_form (take i labels))
    → offset + (get_or wire offset 0 + 1) ≡ length (labels_form (take (i + 1) labels))
offset_next wire labels i offset form lt e =
    omega (arith, e, front-next labels i lt, ap (λ (xs : List ℕ). get_or xs offset 0) form, ap (λ (n : ℕ). get_or (labels_form labels) n 0) e, len_after labels i lt)

-- one element more is as it should be
pub one_more : (xs : List ℕ) (n v : ℕ) (f : ℕ → ℕ) → n < length xs → v ≡ f n → ((i : ℕ) → i < n → get_or xs i 0 ≡ f i) → (i : ℕ) → i < n + 1 → get_or (set xs n v) i 0 ≡ f i
one_more [] n v f lt e all i within = absurd (omega arith)
one_more (x ∷ xs) zero v f lt e all zero within = e
one_more (x ∷ xs) zero v f lt e all (suc i) within = absurd (omega arith)
one_more (x ∷ xs) (suc n) v f lt e all zero within = all 0 (omega arith)
one_more (x ∷ xs) (suc n) v f lt e all (suc i) within = one_more xs n v (λ k. f (suc k)) (omega arith) e (λ k l. all (suc k) (omega arith)) i (omega arith)
