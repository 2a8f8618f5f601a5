-- The keys by which sets are found and put in order.
use Rattle.std.specs.Prelude.{◌+◌, ◌==◌, ◌++◌, cond, nat_lt, map, flat_map, reverse, List, [], ◌∷◌, ℕ}
use Rattle.std.specs.Char.{to_ascii_lowercase}
use Rattle.std.specs.Cmp.Lexicographic.{slice_cmp}
use Rattle.std.specs.Ordering.{nat_cmp, ordering_then}
use Rattle.std.specs.declared.cmp.Ordering.{Ordering}
use Rattle.dns_wire.specs.codes.RecordType.{type_number}
use Rattle.dns_wire.specs.declared.codes.record_type.RecordType.{RecordType}

-- a byte of a label in lower case, and greater than 0; no byte in lower case lies between 'A' and 'Z'
abbrev pub lower_code : ℕ → ℕ
lower_code lower = cond (nat_lt lower 65) (lower + 1) lower

-- the code of a byte of a label, whose case is ignored
abbrev pub byte_code : ℕ → ℕ
byte_code byte = lower_code (to_ascii_lowercase byte)

-- the bytes of a label, and 0 as its end
abbrev pub label_code : List ℕ → List ℕ
label_code label = map byte_code label ++ 0 ∷ []

-- The bytes of an owner, from the last label to the first. Their order is the canonical order of names (RFC 4034 section 6.1).
abbrev pub owner_code : List (List ℕ) → List ℕ
owner_code labels = flat_map label_code (reverse labels)

-- the order of these bytes
abbrev pub bytes_cmp : List ℕ → List ℕ → Ordering
bytes_cmp = slice_cmp nat_cmp

-- the number of a type in the order: SOA comes first
abbrev pub number_code : ℕ → ℕ
number_code number = cond (number == 6) 0 (number + 1)

-- the number of a type in the order of sets
abbrev pub type_code : RecordType → ℕ
type_code record_type = number_code (type_number record_type)

-- what places a set in the order: its owner, and then its type
abbrev pub Place : Type 0
Place = List ℕ × ℕ

-- places compare by owner, and then by type
abbrev pub place_cmp : Place → Place → Ordering
place_cmp a b = ordering_then (slice_cmp nat_cmp a.0 b.0) (nat_cmp a.1 b.1)
