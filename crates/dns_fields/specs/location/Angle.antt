-- Latitudes and longitudes, in thousandths of a second of arc (RFC 1876 sections 2 and 3).
use Rattle.std.specs.Prelude.{ℕ, zero, suc, ◌+◌, ◌-◌, ◌*◌, ◌==◌, ◌||◌, nat_lt, if◌then◌else◌, Bool, true, false, List, [], ◌∷◌, Option, Some, None, option_map}
use Rattle.dns_wire.specs.codes.Decimal.{decimal_up_to}
use Rattle.dns_text.specs.Lexer.{Lexeme, CharData}
use Rattle.dns_fields.specs.location.Fixed.{thousandths}
use Rattle.dns_fields.specs.declared.location.angle.Axis.{Axis}
use Rattle.dns_fields.specs.declared.location.angle.Axis.TheVariants.{Latitude, Longitude}

-- the greatest degrees
abbrev pub greatest : Axis → ℕ
greatest Latitude = 90
greatest Longitude = 180

-- the word at a place
abbrev pub word_at : ℕ → List Lexeme → Option (List ℕ)
word_at place [] = None
word_at zero (CharData word ∷ tokens) = Some word
word_at zero (token ∷ tokens) = None
word_at (suc place) (token ∷ tokens) = word_at place tokens

-- ---- parts

-- the number of a word, if it is at most the greatest
abbrev pub number : ℕ → Option (List ℕ) → Option ℕ
number most None = None
number most (Some word) = decimal_up_to most word

-- degrees, as thousandths of a second
abbrev pub degrees : Axis → Option (List ℕ) → Option ℕ
degrees axis word = option_map (λ n. 3600000 * n) (number (greatest axis) word)

-- minutes, as thousandths of a second
abbrev pub minutes : Option (List ℕ) → Option ℕ
minutes word = option_map (λ n. 60000 * n) (number 59 word)

-- thousandths of seconds
abbrev pub seconds : Option (List ℕ) → Option ℕ
seconds None = None
seconds (Some word) = thousandths 3 59 word

-- whether a letter denotes the positive direction
abbrev pub letter : Axis → ℕ → Option Bool
letter Latitude c = if c == 78 || c == 110 then Some true else if c == 83 || c == 115 then Some false else None
letter Longitude c = if c == 69 || c == 101 then Some true else if c == 87 || c == 119 then Some false else None

-- whether a word is the letter of the positive direction
abbrev pub direction : Axis → Option (List ℕ) → Option Bool
direction axis (Some (c ∷ [])) = letter axis c
direction axis word = None

-- ---- an angle

-- the value of an angle, counted from the equator or the prime meridian at 2 ^ 31, and the place after it
abbrev pub placed : Axis → Bool → ℕ → ℕ → Option (ℕ × ℕ)
placed axis is_positive total next =
    if nat_lt (3600000 * greatest axis) total then None
    else Some ((if is_positive then 2147483648 + total else 2147483648 - total), next)

-- an angle from the direction after the seconds on
abbrev pub after_seconds : Axis → ℕ → List Lexeme → ℕ → Option Bool → Option (ℕ × ℕ)
after_seconds axis place tokens total None = None
after_seconds axis place tokens total (Some is_positive) = placed axis is_positive total (place + 4)

-- an angle from the seconds on
abbrev pub after_minutes : Axis → ℕ → List Lexeme → ℕ → Option (ℕ × ℕ)
after_minutes axis place tokens total = elim (seconds (word_at (place + 2) tokens))
    [ None ↦ None | Some more ↦ after_seconds axis place tokens (total + more) (direction axis (word_at (place + 3) tokens)) ]

-- an angle from the minutes on
abbrev pub after_degrees : Axis → ℕ → List Lexeme → ℕ → Option (ℕ × ℕ)
after_degrees axis place tokens total = elim (minutes (word_at (place + 1) tokens)) [
  | None ↦ None
  | Some more ↦ elim (direction axis (word_at (place + 2) tokens))
      [ None ↦ after_minutes axis place tokens (total + more) | Some is_positive ↦ placed axis is_positive (total + more) (place + 3) ]
]

-- The angle whose degrees are the word at a place, and the place after its direction: degrees, perhaps minutes, perhaps
-- seconds, and a letter (RFC 1876 section 3).
abbrev pub angle : Axis → ℕ → List Lexeme → Option (ℕ × ℕ)
angle axis place tokens = elim (degrees axis (word_at place tokens)) [
  | None ↦ None
  | Some total ↦ elim (direction axis (word_at (place + 1) tokens))
      [ None ↦ after_degrees axis place tokens total | Some is_positive ↦ placed axis is_positive total (place + 2) ]
]
