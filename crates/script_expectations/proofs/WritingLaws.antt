-- What was written so far, and what is left.
use Rattle.std.proofs.Common.{◌≡◌, ℕ, ◌+◌, ◌<◌, List, [], ◌++◌, Option, Some, None, sym, ap, ◌∙◌, subst, refl, length, drop, flat_map, map}
use Rattle.std.proofs.lemmas.List.{append_assoc, append-nil}
use Rattle.std.specs.Borrow.{Bor}
use Rattle.std.specs.Io.KnownBytes.{Appends}
use Rattle.script_expectations.specs.Line.{texts}
use Rattle.script_expectations.proofs.LineLaws.{text_at, lines_from}

pub appends_nothing : (a : Option (List ℕ)) → Appends a a []
appends_nothing None = tt
appends_nothing (Some xs) = sym (append-nil xs)

pub appends_then : (a b c : Option (List ℕ)) (xs ys : List ℕ) → Appends a b xs → Appends b c ys → Appends a c (xs ++ ys)
appends_then None b c xs ys h k = tt
appends_then (Some a) None c xs ys h k = absurd h
appends_then (Some a) (Some b) None xs ys h k = absurd k
appends_then (Some a) (Some b) (Some c) xs ys h k = k ∙ (ap (λ (l : List ℕ). l ++ ys) h ∙ append_assoc a xs ys)

-- a writer that had a has b, and what is left completes the whole
pub record Writes (a b : Option (List ℕ)) (left whole : List ℕ) : Type 0 where
  pub so_far : List ℕ
  pub appended : Appends a b so_far
  pub completes : so_far ++ left ≡ whole

-- nothing is written
pub writes_nothing : (a : Option (List ℕ)) (whole : List ℕ) → Writes a a whole whole
writes_nothing a whole = record { so_far = []; appended = appends_nothing a; completes = refl }

-- the next part is written
pub writes_more : (a b c : Option (List ℕ)) (left whole xs later : List ℕ) → Writes a b left whole → left ≡ xs ++ later → Appends b c xs
    → Writes a c later whole
writes_more a b c left whole xs later h e k = record {
  so_far = h.so_far ++ xs;
  appended = appends_then a b c h.so_far xs h.appended k;
  completes = append_assoc h.so_far xs later ∙ subst (λ (l : List ℕ). h.so_far ++ l ≡ whole) e h.completes;
}

-- nothing is left
pub writes_all : (a b : Option (List ℕ)) (left whole : List ℕ) → Writes a b left whole → left ≡ [] → Appends a b whole
writes_all a b left whole h e =
    let all : h.so_far ≡ whole = sym (append-nil h.so_far) ∙ subst (λ (l : List ℕ). h.so_far ++ l ≡ whole) e h.completes in
    subst (λ (l : List ℕ). Appends a b l) all h.appended

-- the texts of lines from an index on
pub flat_from : (f : List ℕ → List ℕ) (lines : List (Bor (List ℕ))) (i : ℕ) → i < length lines
    → flat_map f (texts (drop i lines)) ≡ f (text_at lines i) ++ flat_map f (texts (drop (i + 1) lines))
flat_from f lines i lt = ap (λ (ls : List (Bor (List ℕ))). flat_map f (texts ls)) (lines_from lines i lt)

-- the same of lines that a function makes of these
pub flat_map_from : (f g : List ℕ → List ℕ) (lines : List (Bor (List ℕ))) (i : ℕ) → i < length lines
    → flat_map f (map g (texts (drop i lines))) ≡ f (g (text_at lines i)) ++ flat_map f (map g (texts (drop (i + 1) lines)))
flat_map_from f g lines i lt = ap (λ (ls : List (Bor (List ℕ))). flat_map f (map g (texts ls))) (lines_from lines i lt)
