-- Given texts as JSON strings, with the characters that they have (RFC 8259 section 7).
use Rattle.std.specs.Prelude.{◌==◌, ◌||◌, ◌++◌, nat_lt, if◌then◌else◌, List, [], ◌∷◌, ℕ}
use Rattle.dns_log.specs.Json.{escape_text}

-- an octet of a string in UTF-8: `"` and `\` after a backslash, and each below 32 escaped
abbrev pub given_octet : ℕ → List ℕ
given_octet c =
    if c == 34 || c == 92 then 92 ∷ c ∷ []
    else if nat_lt c 32 then escape_text c
    else c ∷ []

-- octets of a string in UTF-8
abbrev pub given_octets : List ℕ → List ℕ
given_octets [] = []
given_octets (c ∷ cs) = given_octet c ++ given_octets cs

-- a string of the characters of a text
abbrev pub given_text : List ℕ → List ℕ
given_text text = 34 ∷ given_octets text ++ 34 ∷ []
