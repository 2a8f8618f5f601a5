-- What stands in front, character by character.
use Rattle.std.proofs.Common.{◌≡◌, ℕ, suc, ◌+◌, ◌-◌, ◌<◌, Bool, true, false, ◌&&◌, List, [], ◌∷◌, length, take, drop, get_or, Option, Some, None, refl, sym, ap, ◌∙◌, arith, length-drop}
use Rattle.std.specs.Prelude.{◌==◌, not, if◌then◌else◌}
use Rattle.std.proofs.Math.Seq.{drop-cons}
use Rattle.std.proofs.lemmas.List.{take_all}
use Rattle.dns_text.specs.Front.{Run, line_end, line_from, ends_run, run_from}

-- the slice that is handed down
pub slice_is : (text : List ℕ) (place : ℕ) → take (length text - place) (drop place text) ≡ drop place text
slice_is text place = take_all (length text - place) (drop place text) (omega (arith, length-drop place text))

next_place : (place : ℕ) → suc place ≡ place + 1
next_place place = omega arith

none_picks : (n a b : ℕ) → n ≡ 0 → (if n == 0 then a else b) ≡ a
none_picks n a b e = rw e refl

-- a line goes on past a character that doesn't end it
pub line_next : (place : ℕ) (text : List ℕ) → place < length text → line_end (drop place text) ≡ 0 → line_from place (drop place text) ≡ line_from (place + 1) (drop (place + 1) text)
line_next place text within e =
    let here : drop place text ≡ get_or text place 0 ∷ drop (suc place) text = drop-cons text place 0 within in
    ap (line_from place) here
    ∙ none_picks (line_end (get_or text place 0 ∷ drop (suc place) text)) (line_from (place + 1) (drop (suc place) text)) place (ap line_end (sym here) ∙ e)
    ∙ ap (λ (k : ℕ). line_from (place + 1) (drop k text)) (next_place place)

else_picks : (t : Bool) (a b : Option ℕ) → t ≡ false → (if t then a else b) ≡ b
else_picks t a b e = rw e refl

-- a run goes on past a character that doesn't end it
pub run_next : (run : Run) (is_escaped next : Bool) (place : ℕ) (text : List ℕ) → place < length text → ends_run run is_escaped (drop place text) ≡ false → next ≡ (not is_escaped && get_or text place 0 == 92)
    → run_from run is_escaped place (drop place text) ≡ run_from run next (place + 1) (drop (place + 1) text)
run_next run is_escaped next place text within e is =
    let here : drop place text ≡ get_or text place 0 ∷ drop (suc place) text = drop-cons text place 0 within in
    ap (run_from run is_escaped place) here
    ∙ else_picks (ends_run run is_escaped (get_or text place 0 ∷ drop (suc place) text)) (if is_escaped then None else Some place)
    (run_from run (not is_escaped && get_or text place 0 == 92) (place + 1) (drop (suc place) text)) (ap (ends_run run is_escaped) (sym here) ∙ e)
    ∙ ap (λ (k : Bool). run_from run k (place + 1) (drop (suc place) text)) (sym is)
    ∙ ap (λ (k : ℕ). run_from run next (place + 1) (drop k text)) (next_place place)

-- and ends where one does
pub run_ends : (run : Run) (is_escaped : Bool) (place : ℕ) (text : List ℕ) → ends_run run is_escaped text ≡ true → run_from run is_escaped place text ≡ (if is_escaped then None else Some place)
run_ends run is_escaped place [] e = refl
run_ends run is_escaped place (c ∷ cs) e = then_picks (ends_run run is_escaped (c ∷ cs)) (if is_escaped then None else Some place) (run_from run (not is_escaped && c == 92) (place + 1) cs) e
  where
    then_picks : (t : Bool) (a b : Option ℕ) → t ≡ true → (if t then a else b) ≡ a
    then_picks t a b q = rw q refl
