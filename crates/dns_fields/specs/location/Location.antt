-- Locations from words (RFC 1876 section 3).
use Rattle.std.specs.Prelude.{ℕ, ◌+◌, ◌-◌, ◌==◌, nat_lt, if◌then◌else◌, List, [], ◌∷◌, ◌++◌, length, drop, get_or, Option, Some, None, Result, Ok, Err}
use Rattle.std.specs.Int.{w32, to_be_bytes}
use Rattle.dns_text.specs.Lexer.{Lexeme}
use Rattle.dns_fields.specs.location.Fixed.{centimeters}
use Rattle.dns_fields.specs.location.Angle.{word_at, angle}
use Rattle.dns_fields.specs.location.Size.{size_at}
use Rattle.dns_fields.specs.declared.location.angle.Axis.TheVariants.{Latitude, Longitude}
use Rattle.dns_fields.specs.declared.location.fault.LocationFault.{LocationFault}
use Rattle.dns_fields.specs.declared.location.fault.LocationFault.TheVariants.{InvalidLatitude, InvalidLongitude, InvalidAltitude, InvalidSize, UnexpectedWord}

-- ---- altitudes, in centimeters above 100,000 meters below the spheroid

-- the altitude of centimeters below the spheroid
abbrev pub below : Option ℕ → Option ℕ
below None = None
below (Some n) = if nat_lt 10000000 n then None else Some (10000000 - n)

-- the altitude of centimeters above the spheroid
abbrev pub above : Option ℕ → Option ℕ
above None = None
above (Some n) = if nat_lt 4284967295 n then None else Some (10000000 + n)

-- the altitude of a word
abbrev pub altitude_of : List ℕ → Option ℕ
altitude_of word = if get_or word 0 0 == 45 then below (centimeters 100000 (drop 1 word)) else above (centimeters 42849672 word)

-- the altitude of a word, if it is one
abbrev pub altitude_of_word : Option (List ℕ) → Option ℕ
altitude_of_word None = None
altitude_of_word (Some word) = altitude_of word

-- the altitude at a place
abbrev pub altitude_at : ℕ → List Lexeme → Option ℕ
altitude_at place tokens = altitude_of_word (word_at place tokens)

-- ---- sizes

-- three octets, if each is one
abbrev pub three : Option ℕ → Option ℕ → Option ℕ → Option (List ℕ)
three (Some a) (Some b) (Some c) = Some (a ∷ b ∷ c ∷ [])
three _ _ _ = None

-- The octets of the size and of the horizontal and the vertical precision from a place on: 1, 10000 and 10 meters where they
-- are missing.
abbrev pub sizes_at : ℕ → List Lexeme → Option (List ℕ)
sizes_at place tokens = three (size_at 18 place tokens) (size_at 22 (place + 1) tokens) (size_at 19 (place + 2) tokens)

-- ---- a location

-- the bytes of a location: version 0, the sizes, the angles and the altitude
abbrev pub location_form : List ℕ → ℕ → ℕ → ℕ → List ℕ
location_form sizes latitude longitude altitude =
    0 ∷ sizes ++ to_be_bytes w32 latitude ++ to_be_bytes w32 longitude ++ to_be_bytes w32 altitude

-- a location from the sizes on
abbrev pub after_altitude : ℕ → ℕ → ℕ → ℕ → List Lexeme → Result (List ℕ) LocationFault
after_altitude latitude longitude altitude place tokens = elim (sizes_at (place + 1) tokens) [
  | None ↦ Err InvalidSize
  | Some sizes ↦ if nat_lt (place + 4) (length tokens) then Err UnexpectedWord else Ok (location_form sizes latitude longitude altitude)
]

-- a location from the altitude on
abbrev pub after_longitude : ℕ → ℕ → ℕ → List Lexeme → Result (List ℕ) LocationFault
after_longitude latitude longitude place tokens = elim (altitude_at place tokens)
    [ None ↦ Err InvalidAltitude | Some altitude ↦ after_altitude latitude longitude altitude place tokens ]

-- a location from the longitude on
abbrev pub after_latitude : ℕ → ℕ → List Lexeme → Result (List ℕ) LocationFault
after_latitude latitude place tokens = elim (angle Longitude place tokens)
    [ None ↦ Err InvalidLongitude | Some found ↦ after_longitude latitude found.0 found.1 tokens ]

-- the bytes of a location: a latitude, a longitude, an altitude, and perhaps sizes
abbrev pub location_bytes : List Lexeme → Result (List ℕ) LocationFault
location_bytes tokens = elim (angle Latitude 0 tokens)
    [ None ↦ Err InvalidLatitude | Some found ↦ after_latitude found.0 found.1 tokens ]
