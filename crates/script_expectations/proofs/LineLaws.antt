-- Lines from an index on.
use Rattle.std.proofs.Common.{◌≡◌, ℕ, ◌+◌, ◌<◌, ◌&&◌, Bool, List, [], ◌∷◌, length, get_or, take, drop, sym, ap, ◌∙◌, refl}
use Rattle.std.proofs.lemmas.List.{drop_more, take-map, drop-map, drop-drop}
use Rattle.std.specs.Borrow.{Bor}
use Rattle.std.specs.Cmp.Lexicographic.{pointwise}
use Rattle.std.specs.Str.{bytes_eq}
use Rattle.script_expectations.specs.Line.{texts}
use Rattle.script_expectations.specs.Printed.{event_len, event_lines, later_lines}

-- the text of a line
abbrev pub text_at : List (Bor (List ℕ)) → ℕ → List ℕ
text_at lines i = (get_or lines i (record { ref_ptr = (0, 0); now = [] })).now

-- lines from an index on are the line there, and the rest
pub lines_from : (lines : List (Bor (List ℕ))) (i : ℕ) → i < length lines
    → drop i lines ≡ get_or lines i (record { ref_ptr = (0, 0); now = [] }) ∷ drop (i + 1) lines
lines_from lines i lt = drop_more lines i (record { ref_ptr = (0, 0); now = [] }) lt

-- the lines that the first of the events left printed
pub first_lines : (printed : List (Bor (List ℕ))) (done n : ℕ) → n ≡ event_len (texts (drop done printed))
    → texts (take n (drop done printed)) ≡ event_lines (texts (drop done printed))
first_lines printed done n e =
    sym (take-map (λ (line : Bor (List ℕ)). line.now) n (drop done printed)) ∙ ap (λ (m : ℕ). take m (texts (drop done printed))) e

-- the lines that the events after it printed
pub lines_after : (printed : List (Bor (List ℕ))) (done n : ℕ) → n ≡ event_len (texts (drop done printed))
    → later_lines (texts (drop done printed)) ≡ texts (drop (done + n) printed)
lines_after printed done n e =
    ap (λ (m : ℕ). drop m (texts (drop done printed))) (sym e)
    ∙ (drop-map (λ (line : Bor (List ℕ)). line.now) n (drop done printed) ∙ ap texts (drop-drop n done printed))

-- lines are equal by their texts
pub equal_by_texts : (xs ys : List (Bor (List ℕ))) → pointwise (λ (x y : Bor (List ℕ)). bytes_eq x.now y.now) xs ys ≡ pointwise bytes_eq (texts xs) (texts ys)
equal_by_texts [] [] = refl
equal_by_texts [] (y ∷ ys) = refl
equal_by_texts (x ∷ xs) [] = refl
equal_by_texts (x ∷ xs) (y ∷ ys) = ap (λ (b : Bool). bytes_eq x.now y.now && b) (equal_by_texts xs ys)
