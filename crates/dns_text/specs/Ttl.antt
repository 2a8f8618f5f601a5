-- Times in text: digits with units (RFC 1035 section 5.1 has digits; the units are those of zone files).
use Rattle.std.specs.Prelude.{ℕ, ◌+◌, ◌*◌, ◌==◌, ◌++◌, if◌then◌else◌, List, [], ◌∷◌, length, Option, Some, None, Result, Ok, Err}
use Rattle.std.specs.Char.{to_ascii_lowercase}
use Rattle.dns_wire.specs.codes.Decimal.{is_digit, decimal, at_most}
use Rattle.dns_names.specs.declared.error.ParseError.{ParseError}
use Rattle.dns_names.specs.declared.error.ParseError.TheVariants.{Text}

-- the seconds of a unit: s, m, h, d or w in any case
abbrev pub unit_seconds : ℕ → Option ℕ
unit_seconds c =
    if to_ascii_lowercase c == 115 then Some 1
    else if to_ascii_lowercase c == 109 then Some 60
    else if to_ascii_lowercase c == 104 then Some 3600
    else if to_ascii_lowercase c == 100 then Some 86400
    else if to_ascii_lowercase c == 119 then Some 604800
    else None

-- a run: digits, and the character behind them, if there is one
pub record Run : Type 0 where
  pub digits : List ℕ
  pub unit : Option ℕ

-- the runs with one more digit at the front
abbrev pub with_digit : ℕ → List Run → List Run
with_digit c [] = record { digits = c ∷ []; unit = None } ∷ []
with_digit c (r ∷ rs) = record { digits = c ∷ r.digits; unit = r.unit } ∷ rs

-- the runs of a text: each character but a digit ends one, and the last may have no unit
abbrev pub runs : List ℕ → List Run
runs [] = []
runs (c ∷ cs) = if is_digit c then with_digit c (runs cs) else record { digits = []; unit = Some c } ∷ runs cs

-- digits without a unit are seconds
abbrev pub scale : Option ℕ → Option ℕ
scale None = Some 1
scale (Some c) = unit_seconds c

-- the product of two numbers, if there are two
abbrev pub product : Option ℕ → Option ℕ → Option ℕ
product (Some a) (Some b) = Some (a * b)
product _ _ = None

-- the sum of two numbers, if there are two
abbrev pub sum_of : Option ℕ → Option ℕ → Option ℕ
sum_of (Some a) (Some b) = Some (a + b)
sum_of _ _ = None

-- the seconds of a run, which has one digit at least and a unit that is one
abbrev pub run_seconds : Run → Option ℕ
run_seconds r = product (scale r.unit) (decimal r.digits)

-- the seconds of all runs
abbrev pub seconds : List Run → Option ℕ
seconds [] = Some 0
seconds (r ∷ rs) = sum_of (run_seconds r) (seconds rs)

-- the time that a text spells, with at least one run and up to 4,294,967,295 seconds (RFC 1035 section 4.1.3)
abbrev pub time : List ℕ → Option ℕ
time [] = None
time (c ∷ cs) = at_most 4294967295 (seconds (runs (c ∷ cs)))

-- the place of the first character up to which the text is not a time, after the characters before it
abbrev pub fault_from : List ℕ → List ℕ → ℕ
fault_from read [] = length read
fault_from read (c ∷ cs) = elim (time (read ++ (c ∷ []))) [ None ↦ length read | Some n ↦ fault_from (read ++ (c ∷ [])) cs ]

-- the time of a text, or the place of its first fault, which is 0 for the empty text
abbrev pub ttl_of_text : List ℕ → Result ℕ ParseError
ttl_of_text text = elim (time text) [ None ↦ Err (Text (fault_from [] text)) | Some n ↦ Ok n ]
