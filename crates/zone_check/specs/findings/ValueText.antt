-- What a value at fault says by the type of its record.
use Rattle.std.specs.Prelude.{◌==◌, ◌&&◌, ◌||◌, ◌+◌, ◌*◌, ◌-◌, nat_lt, not, if◌then◌else◌, ℕ, Bool, true, false, length, List, [], ◌∷◌, codes, count_by, is_some, Option, Some, None}
use Rattle.std.specs.List.{list_all}
use Rattle.dns_wire.specs.codes.Decimal.{decimal_up_to, is_digit}
use Rattle.dns_wire.specs.declared.codes.record_type.RecordType.{RecordType}
use Rattle.dns_wire.specs.declared.codes.record_type.RecordType.TheVariants as types
use Rattle.zone_check.specs.findings.Finding.{Sentences}

-- whether a word is digits
abbrev pub is_number : List ℕ → Bool
is_number word = not (length word == 0) && list_all is_digit word

-- whether a word is a number of more than 16 bits
abbrev pub is_above : List ℕ → Bool
is_above word = is_number word && not (is_some (decimal_up_to 65535 word))

-- whether a word is digits and three dots, as an IPv4 address
abbrev pub is_dotted : List ℕ → Bool
is_dotted word = list_all (λ c. is_digit c || c == 46) word && count_by (λ c. c == 46) word == 3

-- whether the digits from here on, after those of a value, or some that follow a dot are a number above 255
abbrev pub exceeds_from : ℕ → List ℕ → Bool
exceeds_from value [] = false
exceeds_from value (c ∷ cs) =
    if c == 46 then exceeds_from 0 cs
    else (if nat_lt 255 (value * 10 + (c - 48)) then true else exceeds_from (value * 10 + (c - 48)) cs)

-- whether some number between the dots of a word is above 255
abbrev pub exceeds_octet : List ℕ → Bool
exceeds_octet word = exceeds_from 0 word

-- a number that does not fit 16 bits
abbrev pub above_said : Sentences
above_said = record { reason = codes "a number above 65,535"; hint = codes "write a number from 0 to 65535" }

-- a mail exchange without a number in front
abbrev pub preference_said : Sentences
preference_said = record {
  reason = codes "an MX record without its preference";
  hint = codes "write a number before the name, as: 10 mail";
}

-- a number of an address that does not fit 8 bits
abbrev pub octet_said : Sentences
octet_said = record {
  reason = codes "an address with a number above 255";
  hint = codes "write four numbers from 0 to 255, as 192.0.2.1";
}

-- a value that is invalid, in an entry that states a type
abbrev pub value_sentences : Option RecordType → List ℕ → Option Sentences
value_sentences (Some types.MX) word =
    if is_above word then Some above_said else (if is_number word then None else Some preference_said)
value_sentences (Some types.SRV) word = if is_above word then Some above_said else None
value_sentences (Some types.A) word = if is_dotted word && exceeds_octet word then Some octet_said else None
value_sentences other word = None
