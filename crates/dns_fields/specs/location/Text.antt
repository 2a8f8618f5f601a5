-- Locations as text (RFC 1876 section 3).
use Rattle.std.specs.Prelude.{ℕ, ◌+◌, ◌-◌, ◌/◌, ◌%◌, nat_lt, if◌then◌else◌, Bool, List, [], ◌∷◌, ◌++◌, get_or}
use Rattle.std.specs.Fmt.{decimal}
use Rattle.dns_fields.specs.location.Size.{octet_centimeters}
use Rattle.dns_fields.specs.location.Wire.{number_at}
use Rattle.dns_fields.specs.declared.location.angle.Axis.{Axis}
use Rattle.dns_fields.specs.declared.location.angle.Axis.TheVariants.{Latitude, Longitude}

-- ---- angles

-- the thousandths of a second between an angle and the equator or the prime meridian
abbrev pub distance : ℕ → ℕ
distance value = if nat_lt value 2147483648 then 2147483648 - value else value - 2147483648

-- the letter of a direction
abbrev pub letter_of : Axis → Bool → ℕ
letter_of Latitude is_negative = if is_negative then 83 else 78
letter_of Longitude is_negative = if is_negative then 87 else 69

-- seconds with three digits after the dot
abbrev pub seconds_text : ℕ → List ℕ
seconds_text n =
    decimal (n / 1000) ++ 46 ∷ (48 + n / 100 % 10) ∷ (48 + n / 10 % 10) ∷ (48 + n % 10) ∷ []

-- degrees, minutes and seconds
abbrev pub distance_words : ℕ → List (List ℕ)
distance_words n = decimal (n / 3600000) ∷ decimal (n % 3600000 / 60000) ∷ seconds_text (n % 60000) ∷ []

-- an angle: degrees, minutes, seconds, and the letter of its direction
abbrev pub angle_words : Axis → ℕ → List (List ℕ)
angle_words axis value = distance_words (distance value) ++ (letter_of axis (nat_lt value 2147483648) ∷ []) ∷ []

-- ---- meters

-- centimeters as meters, with two digits after the dot and the unit
abbrev pub meters_text : ℕ → List ℕ
meters_text n = decimal (n / 100) ++ 46 ∷ (48 + n / 10 % 10) ∷ (48 + n % 10) ∷ 109 ∷ []

-- an altitude, counted from 100,000 meters below the spheroid
abbrev pub altitude_text : ℕ → List ℕ
altitude_text value = if nat_lt value 10000000 then 45 ∷ meters_text (10000000 - value) else meters_text (value - 10000000)

-- the size or a precision at a place
abbrev pub size_text : ℕ → List ℕ → List ℕ
size_text place bytes = meters_text (octet_centimeters (get_or bytes place 0))

-- ---- a location

-- the altitude, the size, and the horizontal and the vertical precision
abbrev pub length_words : List ℕ → List (List ℕ)
length_words bytes = altitude_text (number_at 12 bytes) ∷ size_text 1 bytes ∷ size_text 2 bytes ∷ size_text 3 bytes ∷ []

-- the words of a location
abbrev pub location_words : List ℕ → List (List ℕ)
location_words bytes =
    angle_words Latitude (number_at 4 bytes) ++ angle_words Longitude (number_at 8 bytes) ++ length_words bytes

-- words, a blank before each
abbrev pub spaced_words : List (List ℕ) → List ℕ
spaced_words [] = []
spaced_words (word ∷ words) = (32 ∷ word) ++ spaced_words words

-- words, separated by blanks
abbrev pub joined_words : List (List ℕ) → List ℕ
joined_words [] = []
joined_words (word ∷ words) = word ++ spaced_words words

-- a latitude and a longitude
abbrev pub angles_text : ℕ → ℕ → List ℕ
angles_text latitude longitude = joined_words (angle_words Latitude latitude) ++ 32 ∷ joined_words (angle_words Longitude longitude)
