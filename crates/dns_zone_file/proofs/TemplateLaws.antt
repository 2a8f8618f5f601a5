-- The text of templates, piece by piece.
use Rattle.std.proofs.Common.{◌≡◌, ℕ, zero, suc, ◌+◌, ◌<◌, List, [], ◌∷◌, ◌++◌, length, drop, Option, Some, None, Result, Ok, Err, refl, sym, ap, ◌∙◌, append_assoc, arith}
use Rattle.std.proofs.lemmas.List.{append-nil, drop-drop}
use Rattle.dns_zone_file.specs.templates.Number.{Added}
use Rattle.dns_zone_file.specs.templates.Template.{piece_of, piece_more, piece_text, joined, expanded_after, expanded}
use Rattle.dns_zone_file.specs.declared.templates.fault.GenerateFault.{GenerateFault}
use Rattle.dns_zone_file.specs.declared.templates.fault.GenerateFault.TheVariants.{InvalidTemplate}
use Rattle.dns_zone_file.specs.declared.templates.template.Piece.{Piece}

skips : (n past : ℕ) (text : List ℕ) → expanded_after n past text ≡ expanded n (drop past text)
skips n zero text = refl
skips n (suc past) [] = refl
skips n (suc past) (c ∷ cs) = skips n past cs

-- the first piece of a text, and the text after it
first_is : (n : ℕ) (text : List ℕ) (len : ℕ) → 0 < length text → len ≡ piece_more text + 1
    → expanded n text ≡ joined (piece_text n (piece_of text)) (expanded n (drop len text))
first_is n [] len some takes = absurd (omega arith)
first_is n (c ∷ cs) len some takes =
    let more : len ≡ suc (piece_more (c ∷ cs)) = takes ∙ omega arith in
    ap (joined (piece_text n (piece_of (c ∷ cs)))) (skips n (piece_more (c ∷ cs)) cs ∙ ap (λ (k : ℕ). expanded n (drop k (c ∷ cs))) (sym more))

-- a text that was added
added : (r : Result (List ℕ) GenerateFault) (old new : List ℕ) (more : Result (List ℕ) GenerateFault) → Added r old new
    → joined (Ok new) more ≡ joined (Ok old) (joined r more)
added (Ok text) old new (Ok later) e =
    ap (λ (l : List ℕ). Ok (l ++ later)) e ∙ ap (λ (l : List ℕ). Ok l) (append_assoc old text later)
added (Ok text) old new (Err fault) e = refl
added (Err fault) old new more e = absurd e

module _ (n : ℕ) (text slice done : List ℕ) (place : ℕ) (whole : Result (List ℕ) GenerateFault) (same : slice ≡ drop place text)
    (so_far : joined (Ok done) (expanded n (drop place text)) ≡ whole) where
  -- past a piece and its text
  pub piece_further : (next : List ℕ) (piece : Piece) (len : ℕ) → 0 < length slice → Some piece ≡ piece_of slice → len ≡ piece_more slice + 1
      → Added (piece_text n (Some piece)) done next → joined (Ok next) (expanded n (drop (place + len) text)) ≡ whole
  piece_further next piece len some is takes pushed =
      added (piece_text n (Some piece)) done next (expanded n (drop (place + len) text)) pushed
      ∙ ap (λ (l : List ℕ). joined (Ok done) (joined (piece_text n (Some piece)) (expanded n l))) (sym (drop-drop len place text) ∙ ap (drop len) (sym same))
      ∙ ap (λ (o : Option Piece). joined (Ok done) (joined (piece_text n o) (expanded n (drop len slice)))) is
      ∙ ap (joined (Ok done)) (sym (first_is n slice len some takes) ∙ ap (expanded n) same) ∙ so_far

  -- a piece without a text
  pub piece_refused : (found : Option Piece) (fault : GenerateFault) → 0 < length slice → found ≡ piece_of slice → piece_text n found ≡ Err fault → whole ≡ Err fault
  piece_refused found fault some is refused =
      sym so_far ∙ ap (λ (l : List ℕ). joined (Ok done) (expanded n l)) (sym same)
      ∙ ap (joined (Ok done)) (first_is n slice (piece_more slice + 1) some refl)
      ∙ ap (λ (o : Option Piece). joined (Ok done) (joined (piece_text n o) (expanded n (drop (piece_more slice + 1) slice)))) (sym is)
      ∙ ap (λ (r : Result (List ℕ) GenerateFault). joined (Ok done) (joined r (expanded n (drop (piece_more slice + 1) slice)))) refused

pub text_ends : (n : ℕ) (text done : List ℕ) (place : ℕ) (whole : Result (List ℕ) GenerateFault) → drop place text ≡ []
    → joined (Ok done) (expanded n (drop place text)) ≡ whole → whole ≡ Ok done
text_ends n text done place whole over so_far =
    sym so_far ∙ ap (λ (l : List ℕ). joined (Ok done) (expanded n l)) over ∙ ap (λ (l : List ℕ). Ok l) (append-nil done)
