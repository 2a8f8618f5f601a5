-- The text of a number in a form, as BIND's `$GENERATE` has it.
use Rattle.std.specs.Prelude.{◌≡◌, ℕ, zero, suc, ◌+◌, ◌-◌, ◌*◌, ◌/◌, ◌%◌, ◌^◌, nat_lt, nat_le, if◌then◌else◌, Bool, true, false, List, [], ◌∷◌, ◌++◌, Result, Ok, Err}
use Rattle.dns_zone_file.specs.declared.templates.form.Base.{Base}
use Rattle.dns_zone_file.specs.declared.templates.form.Base.TheVariants.{Decimal, Octal, LowerHex, UpperHex, LowerNibbles, UpperNibbles}
use Rattle.dns_zone_file.specs.declared.templates.form.Offset.{Offset}
use Rattle.dns_zone_file.specs.declared.templates.form.Offset.TheVariants.{Plus, Minus}
use Rattle.dns_zone_file.specs.declared.templates.form.Form.{Form}
use Rattle.dns_zone_file.specs.declared.templates.fault.GenerateFault.{GenerateFault}
use Rattle.dns_zone_file.specs.declared.templates.fault.GenerateFault.TheVariants.{NegativeNumber, NumberTooGreat}

-- ---- digits

-- the radix of a base
abbrev pub radix : Base → ℕ
radix Decimal = 10
radix Octal = 8
radix other = 16

-- what is added to a digit of ten or more for its letter: `a` or `A` is ten
abbrev pub letters : Base → ℕ
letters UpperHex = 55
letters UpperNibbles = 55
letters other = 87

-- the character of a digit
abbrev pub digit : Base → ℕ → ℕ
digit base d = if nat_lt d 10 then 48 + d else letters base + d

-- how many digits a number has in a radix, at most `more + 1`
abbrev pub digits_within : ℕ → ℕ → ℕ → ℕ
digits_within r zero n = 1
digits_within r (suc more) n = if nat_lt n r then 1 else digits_within r more (n / r) + 1

-- how many digits a number of 32 bits has in a radix of 8 or more
abbrev pub digit_count : ℕ → ℕ → ℕ
digit_count r n = digits_within r 10 n

-- the last `count` digits of a number, the most significant first
abbrev pub digits : Base → ℕ → ℕ → List ℕ
digits base zero n = []
digits base (suc count) n = digits base count (n / radix base) ++ digit base (n % radix base) ∷ []

-- the first `len` characters of the hexadecimal digits of a number, the least significant first, with a dot after each
abbrev pub nibbles : Base → ℕ → ℕ → List ℕ
nibbles base zero n = []
nibbles base (suc zero) n = digit base (n % 16) ∷ []
nibbles base (suc (suc len)) n = digit base (n % 16) ∷ 46 ∷ nibbles base len (n / 16)

-- ---- forms

-- whether a base has a dot after each digit, the least significant first
abbrev pub is_nibbles : Base → Bool
is_nibbles LowerNibbles = true
is_nibbles UpperNibbles = true
is_nibbles other = false

-- the greater of two numbers
abbrev pub greater : ℕ → ℕ → ℕ
greater a b = if nat_lt a b then b else a

-- The text of a number in a base, of at least `width` characters: with zeros in front, or, in nibbles, with zeros and their
-- dots after it. Nibbles end with a dot only where the width asks for it.
abbrev pub number_text : Base → ℕ → ℕ → List ℕ
number_text base width n =
    if is_nibbles base then nibbles base (greater width (2 * digit_count 16 n - 1)) n
    else digits base (greater width (digit_count (radix base) n)) n

-- a number with an offset, from 0 to 2^31 - 1
abbrev pub with_offset : ℕ → Offset → Result ℕ GenerateFault
with_offset n (Plus offset) = if nat_lt (n + offset) (2 ^ 31) then Ok (n + offset) else Err NumberTooGreat
with_offset n (Minus offset) = if nat_le offset n then Ok (n - offset) else Err NegativeNumber

-- the text of a number with an offset, or the fault of the number
abbrev pub text_or_fault : Base → ℕ → Result ℕ GenerateFault → Result (List ℕ) GenerateFault
text_or_fault base width (Ok n) = Ok (number_text base width n)
text_or_fault base width (Err fault) = Err fault

-- the text of a number in a form
abbrev pub form_text : Form → ℕ → Result (List ℕ) GenerateFault
form_text form n = text_or_fault form.base form.width (with_offset n form.offset)

-- a text is added to another
abbrev pub Added : Result (List ℕ) GenerateFault → List ℕ → List ℕ → Type 0
Added (Ok text) old new = new ≡ old ++ text
Added (Err fault) old new = ⊥
