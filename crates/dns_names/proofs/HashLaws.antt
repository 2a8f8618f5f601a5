-- What is fed to a hasher, piece by piece.
use Rattle.std.proofs.Common.{◌≡◌, ℕ, zero, suc, ◌+◌, ◌<◌, List, [], ◌∷◌, ◌++◌, length, drop, get_or, refl, sym, ap, ◌∙◌, append_assoc, arith}
use Rattle.std.specs.Char.{to_ascii_lowercase}
use Rattle.std.specs.Str.{str_to_ascii_lowercase}
use Rattle.std.specs.List.{AllByRecursion, fold, flat_map}
use Rattle.std.specs.Hash as fed
use Rattle.dns_names.specs.Compare.{lower}
use Rattle.dns_names.specs.LabelCompare.{label_writes}
use Rattle.dns_wire.specs.Name.{IsLabel}
use Rattle.dns_wire.specs.Writing.{labels_form}
use Rattle.dns_names.proofs.CaseLaws.{lower-form}

module _ {S : Type 0} (write : S → List ℕ → S) where
  pub fold-append : (s : S) (us vs : fed.HashWrites) → fold write s (us ++ vs) ≡ fold write (fold write s us) vs
  fold-append s [] vs = refl
  fold-append s (u ∷ us) vs = fold-append (write s u) us vs

  pub byte_more : (s : S) (label : List ℕ) (i : ℕ) → i < length label
      → fold write s (flat_map fed.u8 (drop i (str_to_ascii_lowercase label)))
      ≡ fold write (fold write s (fed.u8 (to_ascii_lowercase (get_or label i 0)))) (flat_map fed.u8 (drop (i + 1) (str_to_ascii_lowercase label)))
  byte_more s [] i lt = absurd (omega arith)
  byte_more s (c ∷ cs) zero lt = refl
  byte_more s (c ∷ cs) (suc i) lt = let e : suc i + 1 ≡ suc (i + 1) = omega arith in rw e (byte_more s cs i (omega arith))

-- ---- labels as they are encoded

writes-append : (a b : List ℕ) → flat_map fed.u8 (a ++ b) ≡ flat_map fed.u8 a ++ flat_map fed.u8 b
writes-append [] b = refl
writes-append (x ∷ a) b = ap (λ (ws : fed.HashWrites). fed.u8 x ++ ws) (writes-append a b) ∙ sym (append_assoc (fed.u8 x) (flat_map fed.u8 a) (flat_map fed.u8 b))

writes-form : (labels : List (List ℕ)) → flat_map fed.u8 (labels_form labels) ≡ flat_map label_writes labels
writes-form [] = refl
writes-form (l ∷ labels) =
    writes-append (length l ∷ l) (labels_form labels) ∙ ap (λ (ws : fed.HashWrites). label_writes l ++ ws) (writes-form labels)

pub name-writes : (labels : List (List ℕ)) → AllByRecursion IsLabel labels → flat_map fed.u8 (str_to_ascii_lowercase (labels_form labels)) ≡ flat_map label_writes (lower labels)
name-writes labels all = ap (λ (xs : List ℕ). flat_map fed.u8 xs) (lower-form labels all) ∙ writes-form (lower labels)
