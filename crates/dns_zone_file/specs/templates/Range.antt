-- The numbers of a `$GENERATE` (BIND's extension): `START-STOP` or `START-STOP/STEP`.
use Rattle.std.specs.Prelude.{ℕ, zero, suc, ◌+◌, ◌-◌, ◌*◌, ◌/◌, ◌==◌, nat_le, nat_lt, if◌then◌else◌, Bool, List, [], ◌∷◌, take, drop, Option, Some, None, Result, Ok, Err}
use Rattle.std.specs.List.{position}
use Rattle.dns_wire.specs.codes.Decimal.{decimal_up_to}
use Rattle.dns_zone_file.specs.declared.templates.range.Range.{Range}
use Rattle.dns_zone_file.specs.declared.templates.fault.GenerateFault.{GenerateFault}
use Rattle.dns_zone_file.specs.declared.templates.fault.GenerateFault.TheVariants.{InvalidRange, TooManyNumbers}

-- the greatest number of a range
abbrev pub greatest : ℕ
greatest = 2147483647

-- how many numbers a directive may have
abbrev pub max_numbers : ℕ
max_numbers = 65536

-- what separates the numbers of a range
abbrev pub is_dash : ℕ → Bool
is_dash c = c == 45

-- what separates a range and its step
abbrev pub is_slash : ℕ → Bool
is_slash c = c == 47

-- how many numbers there are from one to another in steps
abbrev pub count_of : ℕ → ℕ → ℕ → ℕ
count_of start stop step = (stop - start) / step + 1

-- a range with its numbers, of which there are some and not too many
abbrev pub range_with : Option ℕ → Option ℕ → Option ℕ → Result Range GenerateFault
range_with (Some start) (Some stop) (Some step) =
    if nat_lt stop start then Err InvalidRange
    else if step == 0 then Err InvalidRange
    else if nat_lt max_numbers (count_of start stop step) then Err TooManyNumbers
    else Ok (record { start = start; step = step; count = count_of start stop step })
range_with _ _ _ = Err InvalidRange

-- a range from the text of its start and from that after the dash
abbrev pub range_from : List ℕ → List ℕ → Result Range GenerateFault
range_from start text = elim (position is_slash text) [
  | None ↦ range_with (decimal_up_to greatest start) (decimal_up_to greatest text) (Some 1)
  | Some n ↦ range_with (decimal_up_to greatest start) (decimal_up_to greatest (take n text))
      (decimal_up_to greatest (drop (n + 1) text))
]

-- the range of a text: numbers from 0 to 2^31 - 1 in decimal, the first not above the last, and a step of 1 or more
abbrev pub range_of : List ℕ → Result Range GenerateFault
range_of text = elim (position is_dash text) [
  | None ↦ Err InvalidRange
  | Some n ↦ range_from (take n text) (drop (n + 1) text)
]

-- the number of a range at a place, from 0
abbrev pub number_at : Range → ℕ → ℕ
number_at range place = range.start + place * range.step
