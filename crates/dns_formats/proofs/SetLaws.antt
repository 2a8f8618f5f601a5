-- Types, one after another.
use Rattle.std.proofs.Common.{◌≡◌, ℕ, ◌+◌, ◌<◌, List, [], ◌∷◌, ◌++◌, length, drop, get_or, map, Result, Ok, Err, refl, sym, ap, ◌∙◌, append_assoc}
use Rattle.dns_text.specs.Token.{lexeme}
use Rattle.dns_text.specs.declared.token.Token.{Token}
use Rattle.dns_formats.specs.Types.{type_number_of, then_numbers, type_numbers}
use Rattle.dns_formats.specs.declared.fault.TokenFault.{TokenFault}
use Rattle.dns_formats.proofs.ValueLaws.{at_place}

-- ---- types

-- numbers before those that are left, if there is no fault
abbrev pub numbers_before : List ℕ → Result (List ℕ) TokenFault → Result (List ℕ) TokenFault
numbers_before done (Ok numbers) = Ok (done ++ numbers)
numbers_before done (Err fault) = Err fault

past : (done : List ℕ) (number : ℕ) (more : Result (List ℕ) TokenFault) → numbers_before done (then_numbers (Ok number) more) ≡ numbers_before (done ++ number ∷ []) more
past done number (Ok numbers) = ap (λ (l : List ℕ). Ok l) (sym (append_assoc done (number ∷ []) numbers))
past done number (Err fault) = refl

pub type_further : (whole : Result (List ℕ) TokenFault) (done : List ℕ) (number : ℕ) (tokens : List Token) (i : ℕ) (d : Token) → i < length tokens
    → type_number_of (lexeme (get_or tokens i d)) ≡ Ok number → numbers_before done (type_numbers (map lexeme (drop i tokens))) ≡ whole
    → numbers_before (done ++ number ∷ []) (type_numbers (map lexeme (drop (i + 1) tokens))) ≡ whole
type_further whole done number tokens i d here is e =
    sym (past done number (type_numbers (map lexeme (drop (i + 1) tokens))))
    ∙ ap (λ (r : Result ℕ TokenFault). numbers_before done (then_numbers r (type_numbers (map lexeme (drop (i + 1) tokens))))) (sym is)
    ∙ ap (λ (l : List Token). numbers_before done (type_numbers (map lexeme l))) (sym (at_place tokens i d here)) ∙ e

pub type_stops : (whole : Result (List ℕ) TokenFault) (done : List ℕ) (fault : TokenFault) (tokens : List Token) (i : ℕ) (d : Token) → i < length tokens
    → type_number_of (lexeme (get_or tokens i d)) ≡ Err fault → numbers_before done (type_numbers (map lexeme (drop i tokens))) ≡ whole → whole ≡ Err fault
type_stops whole done fault tokens i d here is e =
    sym e ∙ ap (λ (l : List Token). numbers_before done (type_numbers (map lexeme l))) (at_place tokens i d here)
    ∙ ap (λ (r : Result ℕ TokenFault). numbers_before done (then_numbers r (type_numbers (map lexeme (drop (i + 1) tokens))))) is
