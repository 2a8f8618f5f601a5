-- Decimal numbers with a fraction.
use Rattle.std.specs.Prelude.{ℕ, ◌+◌, ◌-◌, ◌*◌, ◌/◌, ◌==◌, ◌||◌, nat_lt, if◌then◌else◌, Bool, List, [], ◌∷◌, length, take, drop, get_or, Option, Some, None, option_map}
use Rattle.std.specs.List.{position_or_len}
use Rattle.dns_wire.specs.codes.Decimal.{decimal_up_to}

-- the place of the first dot, or the length of the text
abbrev pub dot : List ℕ → ℕ
dot text = position_or_len (λ c. c == 46) text

-- three digits, with zeros after those that are there
abbrev pub padded : List ℕ → Option (List ℕ)
padded [] = Some (48 ∷ 48 ∷ 48 ∷ [])
padded (a ∷ []) = Some (a ∷ 48 ∷ 48 ∷ [])
padded (a ∷ b ∷ []) = Some (a ∷ b ∷ 48 ∷ [])
padded (a ∷ b ∷ c ∷ []) = Some (a ∷ b ∷ c ∷ [])
padded digits = None

-- the number of three digits
abbrev pub three_digits : Option (List ℕ) → Option ℕ
three_digits None = None
three_digits (Some digits) = decimal_up_to 999 digits

-- the thousandths of at most `places` digits after a dot
abbrev pub fraction : ℕ → List ℕ → Option ℕ
fraction places text = if nat_lt places (length text) then None else three_digits (padded text)

-- thousandths of a whole number and of what follows its dot
abbrev pub with_fraction : Option ℕ → Option ℕ → Option ℕ
with_fraction (Some whole) (Some part) = Some (1000 * whole + part)
with_fraction _ _ = None

-- the thousandths of a number whose whole part is at most the greatest: digits, and perhaps a dot and at most `places` more
abbrev pub thousandths : ℕ → ℕ → List ℕ → Option ℕ
thousandths places greatest text =
    with_fraction (decimal_up_to greatest (take (dot text) text)) (fraction places (drop (dot text + 1) text))

-- whether a character is the unit of meters
abbrev pub is_unit : ℕ → Bool
is_unit c = c == 109 || c == 77

-- a text without the unit at its end, if it has one
abbrev pub without_unit : List ℕ → List ℕ
without_unit text =
    if is_unit (get_or text (length text - 1) 0) then take (length text - 1) text else text

-- the centimeters of a number of meters, of which at most two digits follow the dot (RFC 1876 section 3)
abbrev pub centimeters : ℕ → List ℕ → Option ℕ
centimeters greatest text = option_map (λ number. number / 10) (thousandths 2 greatest (without_unit text))
