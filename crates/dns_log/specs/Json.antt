-- Texts and optional numbers in JSON (RFC 8259 sections 3, 6 and 7).
use Rattle.std.specs.Prelude.{◌==◌, ◌+◌, ◌/◌, ◌%◌, ◌&&◌, ◌||◌, ◌++◌, nat_le, nat_lt, if◌then◌else◌, Bool, true, false, List, [], ◌∷◌, ℕ, Option, Some, None, codes}
use Rattle.std.specs.Fmt.{decimal}

-- the hexadecimal digit of a number below 16
abbrev pub hex_digit : ℕ → ℕ
hex_digit number = if nat_lt number 10 then 48 + number else 87 + number

-- an octet as `\u` and four hexadecimal digits
abbrev pub escape_text : ℕ → List ℕ
escape_text c = 92 ∷ 117 ∷ 48 ∷ 48 ∷ hex_digit (c / 16) ∷ hex_digit (c % 16) ∷ []

-- an octet of a string: `"` and `\` after a backslash, other printable characters as themselves, and the rest escaped
abbrev pub json_octet : ℕ → List ℕ
json_octet c =
    if c == 34 || c == 92 then 92 ∷ c ∷ []
    else if nat_le 32 c && nat_le c 126 then c ∷ []
    else escape_text c

-- octets of a string
abbrev pub json_octets : List ℕ → List ℕ
json_octets [] = []
json_octets (c ∷ cs) = json_octet c ++ json_octets cs

-- a string, with its quotes
unfoldable pub json_text : List ℕ → List ℕ
json_text octets = 34 ∷ json_octets octets ++ 34 ∷ []

-- a number, or `null`
unfoldable pub json_number : Option ℕ → List ℕ
json_number None = codes "null"
json_number (Some number) = decimal number

-- `true` or `false` (RFC 8259 section 3)
unfoldable pub json_bool : Bool → List ℕ
json_bool true = codes "true"
json_bool false = codes "false"
