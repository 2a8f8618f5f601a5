-- Sizes and precisions: a digit times a power of ten, in centimeters (RFC 1876 section 2).
use Rattle.std.specs.Prelude.{ℕ, ◌+◌, ◌*◌, ◌/◌, ◌%◌, ◌==◌, ◌&&◌, ◌||◌, nat_lt, if◌then◌else◌, Bool, List, length, Option, Some, None}
use Rattle.dns_text.specs.Lexer.{Lexeme}
use Rattle.dns_fields.specs.location.Fixed.{centimeters}
use Rattle.dns_fields.specs.location.Angle.{word_at}

-- The octet of a number of centimeters: its first digit in the high half, and how many digits follow in the low one. The
-- digits that follow are lost.
abbrev pub size_octet : ℕ → ℕ
size_octet n =
    if nat_lt n 10 then 16 * n
    else if nat_lt n 100 then 16 * (n / 10) + 1
    else if nat_lt n 1000 then 16 * (n / 100) + 2
    else if nat_lt n 10000 then 16 * (n / 1000) + 3
    else if nat_lt n 100000 then 16 * (n / 10000) + 4
    else if nat_lt n 1000000 then 16 * (n / 100000) + 5
    else if nat_lt n 10000000 then 16 * (n / 1000000) + 6
    else if nat_lt n 100000000 then 16 * (n / 10000000) + 7
    else if nat_lt n 1000000000 then 16 * (n / 100000000) + 8
    else 16 * (n / 1000000000) + 9

-- the octet of a size of at most 90000000.00 meters
abbrev pub octet_up_to : Option ℕ → Option ℕ
octet_up_to None = None
octet_up_to (Some n) = if nat_lt 9000000000 n then None else Some (size_octet n)

-- the octet of the size that a word denotes
abbrev pub size_of : List ℕ → Option ℕ
size_of word = octet_up_to (centimeters 90000000 word)

-- the octet of the size that a word denotes, if it is one
abbrev pub size_of_word : Option (List ℕ) → Option ℕ
size_of_word None = None
size_of_word (Some word) = size_of word

-- the octet of the size at a place, or the usual one if the words end before
abbrev pub size_at : ℕ → ℕ → List Lexeme → Option ℕ
size_at usual place tokens = if nat_lt place (length tokens) then size_of_word (word_at place tokens) else Some usual

-- whether an octet is that of a size: a digit that is not 0 and the power of ten, each below 10, or 0 for none
abbrev pub is_size : ℕ → Bool
is_size octet = octet == 0 || (nat_lt 0 (octet / 16) && nat_lt (octet / 16) 10 && nat_lt (octet % 16) 10)

-- a power of ten up to the ninth
abbrev pub power : ℕ → ℕ
power exponent =
    if exponent == 0 then 1 else if exponent == 1 then 10 else if exponent == 2 then 100 else if exponent == 3 then 1000
    else if exponent == 4 then 10000 else if exponent == 5 then 100000 else if exponent == 6 then 1000000
    else if exponent == 7 then 10000000 else if exponent == 8 then 100000000 else 1000000000

-- the centimeters of the octet of a size
abbrev pub octet_centimeters : ℕ → ℕ
octet_centimeters octet = octet / 16 * power (octet % 16)
