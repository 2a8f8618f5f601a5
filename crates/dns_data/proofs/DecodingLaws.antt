-- What a decoder read, as values of fields.
use Rattle.std.proofs.Common.{◌≡◌, ℕ, ◌<◌, ◌≤◌, List, ◌++◌, length, ap, arith}
use Rattle.std.specs.Int.{w16, to_be_bytes}
use Rattle.dns_wire.specs.Decoder.{Decoder, rest, Advances}
use Rattle.dns_wire.proofs.BytesAtLaws.{advances-bytes_at}
use Rattle.dns_data.specs.Field.{OptionValue}
use Rattle.dns_data.specs.Wire.{StringAt, OptionAt}

same_buffer : (old new : Decoder) (n : ℕ) → Advances old new n → new.bytes ≡ old.bytes
same_buffer old new n moved = ap (λ (d : Decoder). d.bytes) moved

-- ---- the next index

within_next : (d0 d1 : Decoder) (bytes : List ℕ) → 0 < length bytes → rest d0 ≡ bytes ++ rest d1 → Advances d0 d1 (length bytes) → d1.index ≤ length d1.bytes
within_next d0 d1 bytes some e moved =
    let there = advances-bytes_at d0 d1 bytes some e moved in
    omega (arith, there.within, ap (λ (xs : List ℕ). length xs) (same_buffer d0 d1 (length bytes) moved))

pub within_number : (d0 d1 : Decoder) (number : ℕ) → rest d0 ≡ to_be_bytes w16 number ++ rest d1 → Advances d0 d1 2 → d1.index ≤ length d1.bytes
within_number d0 d1 number e moved = within_next d0 d1 (to_be_bytes w16 number) (omega arith) e moved

-- ---- one item is ahead of the other

pub string_ahead : (bytes : List ℕ) (place : ℕ) (string : List ℕ) (end : ℕ) → StringAt bytes place string end → place < end
string_ahead bytes place string end h = omega (arith, h.0.1.ends, h.0.2.1.ends, h.0.2.2)

pub option_ahead : (bytes : List ℕ) (place : ℕ) (option : OptionValue) (end : ℕ) → OptionAt bytes place option end → place < end
option_ahead bytes place option end h = omega (arith, h.0.1.ends, h.0.2.1.ends, h.0.2.2.1.ends, h.0.2.2.2)
