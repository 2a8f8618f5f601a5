-- Text that is printed, piece by piece.
use Rattle.std.proofs.Common.{◌≡◌, ℕ, suc, ◌+◌, ◌<◌, Bool, false, List, ◌∷◌, ◌++◌, length, drop, get_or, sym, ap, ◌∙◌, append_assoc, arith}
use Rattle.std.specs.Prelude.{slice_get, Some}
use Rattle.std.proofs.Math.Seq.{drop-cons}
use Rattle.dns_names.specs.Print.{octet_text, octets_text, label_text, labels_behind}
use Rattle.dns_names.proofs.IterLaws.{drop-at}

pub octet_more : (b : Bool) (xs : List ℕ) (i : ℕ) (done all : List ℕ) → i < length xs → done ++ octets_text b (drop i xs) ≡ all
    → (done ++ octet_text b (get_or xs i 0)) ++ octets_text false (drop (i + 1) xs) ≡ all
octet_more b xs i done all lt e =
    let next : i + 1 ≡ suc i = omega arith in
    append_assoc done (octet_text b (get_or xs i 0)) (octets_text false (drop (i + 1) xs))
    ∙ ap (λ (n : ℕ). done ++ (octet_text b (get_or xs i 0) ++ octets_text false (drop n xs))) next
    ∙ ap (λ (l : List ℕ). done ++ octets_text b l) (sym (drop-cons xs i 0 lt)) ∙ e

pub label_behind : (labels : List (List ℕ)) (i : ℕ) (label done all : List ℕ) → slice_get labels i ≡ Some label → done ++ labels_behind (drop i labels) ≡ all
    → (done ++ (46 ∷ label_text label)) ++ labels_behind (drop (i + 1) labels) ≡ all
label_behind labels i label done all at e =
    let next : i + 1 ≡ suc i = omega arith in
    append_assoc done (46 ∷ label_text label) (labels_behind (drop (i + 1) labels))
    ∙ ap (λ (n : ℕ). done ++ ((46 ∷ label_text label) ++ labels_behind (drop n labels))) next
    ∙ ap (λ (l : List (List ℕ)). done ++ labels_behind l) (sym (drop-at labels i label at)) ∙ e
