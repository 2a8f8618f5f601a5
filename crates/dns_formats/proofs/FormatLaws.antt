-- The formats of the table.
use Rattle.std.proofs.Common.{◌≡◌, ℕ, Bool, true, false, ◌&&◌, List, [], ◌∷◌, Option, Some, None, refl, subst}
use Rattle.std.specs.Prelude.{◌==◌, not, if◌then◌else◌}
use Rattle.dns_formats.specs.Field.{takes_rest, begins, fields_among, formats, fields_of}
use Rattle.dns_formats.specs.declared.field.Field.{Field}

pub first_of : (a b : Bool) → (a && b) ≡ true → a ≡ true
first_of true b e = refl
first_of false b e = e

pub second_of : (a b : Bool) → (a && b) ≡ true → b ≡ true
second_of true b e = e
second_of false b e = absurd (cc)

-- at least one field, of which only the last takes all tokens that are left
abbrev pub is_chain : List Field → Bool
is_chain [] = false
is_chain (field ∷ []) = true
is_chain (field ∷ next ∷ fields) = not (takes_rest field) && is_chain (next ∷ fields)

-- fields of which the first has a token
pub record IsFormat (fields : List Field) : Type 0 where
  pub begun : begins fields ≡ true
  pub chain : is_chain fields ≡ true

abbrev are_formats : List (ℕ × List Field) → Bool
are_formats [] = true
are_formats (line ∷ lines) = (begins line.1 && is_chain line.1) && are_formats lines

abbrev AreFormat : Option (List Field) → Type 0
AreFormat None = Unit {0}
AreFormat (Some fields) = IsFormat fields

one_line : (b : Bool) (fields : List Field) (more : Option (List Field)) → IsFormat fields → AreFormat more → AreFormat (if b then Some fields else more)
one_line true fields more is others = is
one_line false fields more is others = others

among : (lines : List (ℕ × List Field)) (number : ℕ) → are_formats lines ≡ true → AreFormat (fields_among lines number)
among [] number e = tt
among (line ∷ lines) number e =
    let here = first_of (begins line.1 && is_chain line.1) (are_formats lines) e in
    one_line (line.0 == number) line.1 (fields_among lines number)
    (record { begun = first_of (begins line.1) (is_chain line.1) here; chain = second_of (begins line.1) (is_chain line.1) here })
    (among lines number (second_of (begins line.1 && is_chain line.1) (are_formats lines) e))

table : are_formats formats ≡ true
table = refl

pub format_is : (number : ℕ) (fields : List Field) → fields_of number ≡ Some fields → IsFormat fields
format_is number fields e = subst (λ (o : Option (List Field)). AreFormat o) e (among formats number table)
