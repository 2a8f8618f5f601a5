-- Bytes in base32hex without padding (RFC 4648 section 7, RFC 5155 section 3.3).
use Rattle.std.specs.Prelude.{ℕ, zero, suc, ◌+◌, ◌-◌, ◌*◌, ◌/◌, ◌%◌, ◌==◌, ◌&&◌, nat_le, nat_lt, if◌then◌else◌, Bool, true, List, [], ◌∷◌, ◌++◌, length, take, drop, get_or, Option, Some, None, is_some, option_map}

-- ---- to digits

-- the digit of a value: `0` to `9`, and `a` to `v`
abbrev pub digit : ℕ → ℕ
digit value = if nat_lt value 10 then 48 + value else 87 + value

-- how many digits a group of bytes has: five bytes have eight
abbrev pub digits_in : ℕ → ℕ
digits_in zero = 0
digits_in (suc zero) = 2
digits_in (suc (suc zero)) = 4
digits_in (suc (suc (suc zero))) = 5
digits_in (suc (suc (suc (suc zero)))) = 7
digits_in (suc (suc (suc (suc (suc n))))) = 8

-- the byte at a place, 0 after the last
abbrev pub byte_at : List ℕ → ℕ → ℕ
byte_at bytes place = get_or bytes place 0

-- one of the eight times five bits of the group at the front of bytes, as if zeros followed them: from the most significant
-- bit of the first byte on
abbrev pub quintet : List ℕ → ℕ → ℕ
quintet bytes index =
    if index == 0 then byte_at bytes 0 / 8
    else if index == 1 then byte_at bytes 0 % 8 * 4 + byte_at bytes 1 / 64
    else if index == 2 then byte_at bytes 1 / 2 % 32
    else if index == 3 then byte_at bytes 1 % 2 * 16 + byte_at bytes 2 / 16
    else if index == 4 then byte_at bytes 2 % 16 * 2 + byte_at bytes 3 / 128
    else if index == 5 then byte_at bytes 3 / 4 % 32
    else if index == 6 then byte_at bytes 3 % 4 * 8 + byte_at bytes 4 / 32
    else byte_at bytes 4 % 32

-- some digits of the group, from an index on
abbrev pub digits_from : List ℕ → ℕ → ℕ → List ℕ
digits_from bytes index zero = []
digits_from bytes index (suc count) = digit (quintet bytes index) ∷ digits_from bytes (index + 1) count

-- the digits of the group at the front of bytes
abbrev pub front_digits : List ℕ → List ℕ
front_digits bytes = digits_from bytes 0 (digits_in (length bytes))

-- bytes in groups of five
abbrev pub encoded : List ℕ → List ℕ
encoded [] = []
encoded (a ∷ []) = front_digits (a ∷ [])
encoded (a ∷ b ∷ []) = front_digits (a ∷ b ∷ [])
encoded (a ∷ b ∷ c ∷ []) = front_digits (a ∷ b ∷ c ∷ [])
encoded (a ∷ b ∷ c ∷ d ∷ []) = front_digits (a ∷ b ∷ c ∷ d ∷ [])
encoded (a ∷ b ∷ c ∷ d ∷ e ∷ rest) = front_digits (a ∷ b ∷ c ∷ d ∷ e ∷ rest) ++ encoded rest

-- ---- from digits

-- the value of a digit in any case
abbrev pub digit_value : ℕ → Option ℕ
digit_value c =
    if nat_le 48 c && nat_le c 57 then Some (c - 48)
    else if nat_le 65 c && nat_le c 86 then Some (c - 55)
    else if nat_le 97 c && nat_le c 118 then Some (c - 87)
    else None

-- digits alone
abbrev pub are_digits : List ℕ → Bool
are_digits [] = true
are_digits (c ∷ cs) = is_some (digit_value c) && are_digits cs

-- a value below 32, or else 0
abbrev pub small_value : Option ℕ → ℕ
small_value None = 0
small_value (Some value) = if nat_lt value 32 then value else 0

-- the value of the digit at a place, 0 after the last
abbrev pub value_at : List ℕ → ℕ → ℕ
value_at digits place = small_value (digit_value (get_or digits place 48))

-- how many bytes a group of digits has, 0 where no group has as many digits
abbrev pub bytes_in : ℕ → ℕ
bytes_in zero = 0
bytes_in (suc zero) = 0
bytes_in (suc (suc zero)) = 1
bytes_in (suc (suc (suc zero))) = 0
bytes_in (suc (suc (suc (suc zero)))) = 2
bytes_in (suc (suc (suc (suc (suc zero))))) = 3
bytes_in (suc (suc (suc (suc (suc (suc zero)))))) = 0
bytes_in (suc (suc (suc (suc (suc (suc (suc zero))))))) = 4
bytes_in (suc (suc (suc (suc (suc (suc (suc (suc n)))))))) = 5

-- five bytes, from the most significant bit of the first value on
abbrev pub bytes_of : ℕ → ℕ → ℕ → ℕ → ℕ → ℕ → ℕ → ℕ → List ℕ
bytes_of p q r s t u v w =
    (p * 8 + q / 4) ∷ (q % 4 * 64 + r * 2 + s / 16) ∷ (s % 16 * 16 + t / 2) ∷ (t % 2 * 128 + u * 4 + v / 8) ∷ (v % 8 * 32 + w) ∷ []

-- the bytes of the group at the front of digits, as if zeros followed them
abbrev pub group_bytes : List ℕ → List ℕ
group_bytes digits =
    bytes_of (value_at digits 0) (value_at digits 1) (value_at digits 2) (value_at digits 3) (value_at digits 4) (value_at digits 5) (value_at digits 6) (value_at digits 7)

-- zeros alone
abbrev pub are_zero : List ℕ → Bool
are_zero [] = true
are_zero (byte ∷ bytes) = byte == 0 && are_zero bytes

-- how many bytes a group of some digits has, if the bytes after them are zero
abbrev pub whole_bytes : ℕ → List ℕ → Option ℕ
whole_bytes len group =
    if bytes_in len == 0 then None else if are_zero (drop (bytes_in len) group) then Some (bytes_in len) else None

-- that many bytes of a group, before those of the groups after it
abbrev pub join_group : Option ℕ → List ℕ → Option (List ℕ) → Option (List ℕ)
join_group None group more = None
join_group (Some count) group more = option_map (λ bytes. take count group ++ bytes) more

-- the group at the front of digits, and those after it
abbrev pub join_front : List ℕ → Option (List ℕ) → Option (List ℕ)
join_front digits more = join_group (whole_bytes (length digits) (group_bytes digits)) (group_bytes digits) more

-- digits in groups of eight
abbrev pub groups : List ℕ → Option (List ℕ)
groups (p ∷ q ∷ r ∷ s ∷ t ∷ u ∷ v ∷ w ∷ rest) = join_front (p ∷ q ∷ r ∷ s ∷ t ∷ u ∷ v ∷ w ∷ rest) (groups rest)
groups [] = Some []
groups (digit ∷ digits) = join_front (digit ∷ digits) (Some [])

-- the bytes of digits
abbrev pub decoded : List ℕ → Option (List ℕ)
decoded digits = if are_digits digits then groups digits else None
