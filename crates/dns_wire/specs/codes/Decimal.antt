-- Decimal numbers in text.
use Rattle.std.specs.Prelude.{ℕ, ◌+◌, ◌-◌, ◌*◌, ◌&&◌, nat_le, if◌then◌else◌, Bool, List, [], ◌∷◌, Option, Some, None}

-- whether a byte is a decimal digit
abbrev pub is_digit : ℕ → Bool
is_digit c = nat_le 48 c && nat_le c 57

-- the number that digits continue, from the number of the digits before them
abbrev pub digits_from : ℕ → List ℕ → Option ℕ
digits_from number [] = Some number
digits_from number (c ∷ cs) = if is_digit c then digits_from (10 * number + (c - 48)) cs else None

-- the number of at least one digit
abbrev pub decimal : List ℕ → Option ℕ
decimal [] = None
decimal (c ∷ cs) = digits_from 0 (c ∷ cs)

-- the number, if it is at most the greatest
abbrev pub at_most : ℕ → Option ℕ → Option ℕ
at_most greatest None = None
at_most greatest (Some number) = if nat_le number greatest then Some number else None

-- the number in a text, if it is at most the greatest
unfoldable pub decimal_up_to : ℕ → List ℕ → Option ℕ
decimal_up_to greatest text = at_most greatest (decimal text)
