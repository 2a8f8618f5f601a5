-- The fields of DNSSEC: types by their names, times, and salts.
use Rattle.std.specs.Prelude.{ℕ, ◌+◌, ◌-◌, ◌*◌, ◌/◌, ◌%◌, ◌==◌, ◌&&◌, ◌||◌, not, nat_le, nat_lt, if◌then◌else◌, Bool, List, [], ◌∷◌, length, take, drop, Option, Some, None, option_map, Result, Ok, Err, codes}
use Rattle.std.specs.Int.{w16, w32, to_be_bytes}
use Rattle.std.specs.Str.{bytes_eq}
use Rattle.hex.specs.Hex.{decode_of}
use Rattle.dns_wire.specs.codes.Decimal.{decimal_up_to}
use Rattle.dns_wire.specs.codes.RecordType.{type_number}
use Rattle.dns_wire.specs.declared.codes.record_type.RecordType.{RecordType}
use Rattle.dns_text.specs.Lexer.{Lexeme, CharData}
use Rattle.dns_formats.specs.Counted.{counted}
use Rattle.dns_fields.specs.bitmaps.TypeWord.{type_of_word}
use Rattle.dns_formats.specs.Rest.{hex_outcome}
use Rattle.dns_formats.specs.declared.fault.TokenFault.{TokenFault}
use Rattle.dns_formats.specs.declared.fault.TokenFault.TheVariants.{NotAWord, NotAType, NotATime}

-- ---- types

-- the number of a type, if it is one
abbrev pub type_or_fault : Option RecordType → Result (List ℕ) TokenFault
type_or_fault None = Err NotAType
type_or_fault (Some record_type) = Ok (to_be_bytes w16 (type_number record_type))

-- a record type by its name, or `TYPE` and its number (RFC 3597 section 5)
abbrev pub type_bytes : Lexeme → Result (List ℕ) TokenFault
type_bytes (CharData text) = type_or_fault (type_of_word text)
type_bytes token = Err NotAWord

-- ---- times (RFC 4034 section 3.2)

-- a year with 366 days, by the Gregorian calendar
abbrev pub is_leap : ℕ → Bool
is_leap year = year % 4 == 0 && not (year % 100 == 0) || year % 400 == 0

-- how many years with 366 days precede a year
abbrev pub leaps_before : ℕ → ℕ
leaps_before year = (year - 1) / 4 - (year - 1) / 100 + (year - 1) / 400

-- the days of a month
abbrev pub days_in : ℕ → ℕ → ℕ
days_in year month =
    if month == 2 then (if is_leap year then 29 else 28)
    else if month == 4 || (month == 6 || (month == 9 || month == 11)) then 30
    else 31

-- the days of a year before a month, in a year with 365 days
abbrev pub days_before : ℕ → ℕ
days_before month =
    if month == 2 then 31 else if month == 3 then 59 else if month == 4 then 90 else if month == 5 then 120
    else if month == 6 then 151 else if month == 7 then 181 else if month == 8 then 212 else if month == 9 then 243
    else if month == 10 then 273 else if month == 11 then 304 else if month == 12 then 334 else 0

-- a date from 1970 on
abbrev pub is_date : ℕ → ℕ → ℕ → Bool
is_date year month day =
    nat_le 1970 year && (nat_le 1 month && (nat_le 1 day && nat_le day (days_in year month)))

-- the days from 1970 to a date, which 477 years with 366 days precede up to 1969
abbrev pub days_to : ℕ → ℕ → ℕ → ℕ
days_to year month day =
    365 * (year - 1970) + (leaps_before year - 477) + days_before month
    + (if is_leap year && nat_lt 2 month then 1 else 0) + (day - 1)

-- the days from 1970 to a date, if it is one
abbrev pub date_days : Option ℕ → Option ℕ → Option ℕ → Option ℕ
date_days (Some year) (Some month) (Some day) = if is_date year month day then Some (days_to year month day) else None
date_days _ _ _ = None

-- the seconds up to a time of a day
abbrev pub moment : Option ℕ → Option ℕ → Option ℕ → Option ℕ → Option ℕ
moment (Some days) (Some hour) (Some minute) (Some second) = Some (((days * 24 + hour) * 60 + minute) * 60 + second)
moment _ _ _ _ = None

-- a number of some digits within a text
abbrev pub part : ℕ → ℕ → ℕ → List ℕ → Option ℕ
part place len greatest text = decimal_up_to greatest (take len (drop place text))

-- the seconds from 1970 to a date and a time of the form `YYYYMMDDHHmmSS`
abbrev pub date_seconds : List ℕ → Option ℕ
date_seconds text =
    moment (date_days (part 0 4 9999 text) (part 4 2 12 text) (part 6 2 31 text)) (part 8 2 23 text) (part 10 2 59 text) (part 12 2 59 text)

-- seconds of 32 bits: a number, or a date and a time in fourteen digits, in serial number arithmetic (RFC 4034 section
-- 3.1.5)
abbrev pub time_seconds : List ℕ → Option ℕ
time_seconds text = elim (decimal_up_to 4294967295 text) [
  | Some seconds ↦ Some seconds
  | None ↦ if length text == 14 then option_map (λ seconds. seconds % 4294967296) (date_seconds text) else None
]

-- the bytes of a time, if there is one
abbrev pub time_or_fault : Option ℕ → Result (List ℕ) TokenFault
time_or_fault None = Err NotATime
time_or_fault (Some seconds) = Ok (to_be_bytes w32 seconds)

-- a time in one word
abbrev pub time_bytes : Lexeme → Result (List ℕ) TokenFault
time_bytes (CharData text) = time_or_fault (time_seconds text)
time_bytes token = Err NotAWord

-- ---- salts (RFC 5155 section 3.3)

-- a salt of at most 255 bytes, after its length: hexadecimal digits in one word, or `-` for none
abbrev pub salt_bytes : Lexeme → Result (List ℕ) TokenFault
salt_bytes (CharData text) = if bytes_eq text (codes "-") then Ok (0 ∷ []) else counted (hex_outcome (decode_of text))
salt_bytes token = Err NotAWord
