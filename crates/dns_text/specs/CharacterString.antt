-- Character strings in text (RFC 1035 section 5.1).
use Rattle.std.specs.Prelude.{ℕ, zero, suc, ◌==◌, ◌||◌, ◌&&◌, nat_le, if◌then◌else◌, List, [], ◌∷◌, ◌++◌, Option, Some, None}
use Rattle.dns_names.specs.Parse.{Symbol, Escaped, escape, more_len}
use Rattle.dns_names.specs.Print.{escape_sequence}

-- ---- parsing

-- the octet of an escape, if it is valid
abbrev pub octet_of : Symbol → Option ℕ
octet_of (Escaped octet) = Some octet
octet_of _ = None

-- the octet of an escape, from the text after its backslash: a line feed denotes itself, where a string goes over several
-- lines, and every other escape is one of names
abbrev pub string_escape : List ℕ → Option ℕ
string_escape [] = None
string_escape (c ∷ cs) = if c == 10 then Some c else octet_of (escape (c ∷ cs))

-- the octet that a text begins with: that of the escape after a backslash, or the first character itself
abbrev pub first_octet : List ℕ → Option ℕ
first_octet [] = None
first_octet (c ∷ cs) = if c == 92 then string_escape cs else Some c

-- an octet and the octets after it, if each is one
abbrev pub octet_before : Option ℕ → Option (List ℕ) → Option (List ℕ)
octet_before (Some octet) (Some octets) = Some (octet ∷ octets)
octet_before _ _ = None

-- the octets of a text, after `past` more characters of the escape before
abbrev pub unescaped_after : ℕ → List ℕ → Option (List ℕ)
unescaped_after past [] = Some []
unescaped_after zero (c ∷ cs) = octet_before (first_octet (c ∷ cs)) (unescaped_after (more_len (c ∷ cs)) cs)
unescaped_after (suc past) (c ∷ cs) = unescaped_after past cs

-- The octets of a string, from its text without quotes. A backslash and three decimal digits up to 255 denote an octet, a
-- backslash and another printable character or a line feed that character, and any other character itself.
abbrev pub unescaped : List ℕ → Option (List ℕ)
unescaped text = unescaped_after 0 text

-- ---- printing

-- an octet between quotes: `"` and `\` after a backslash, other printable characters as themselves, and the rest as `\DDD`
abbrev pub octet_text : ℕ → List ℕ
octet_text c =
    if c == 34 || c == 92 then 92 ∷ c ∷ []
    else if nat_le 32 c && nat_le c 126 then c ∷ []
    else escape_sequence c

-- the text of octets between quotes
abbrev pub escaped_text : List ℕ → List ℕ
escaped_text [] = []
escaped_text (c ∷ cs) = octet_text c ++ escaped_text cs

-- the text of octets, with the quotes
abbrev pub quoted_text : List ℕ → List ℕ
quoted_text octets = 34 ∷ escaped_text octets ++ 34 ∷ []
