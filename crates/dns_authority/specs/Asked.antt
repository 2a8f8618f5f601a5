-- What a question asks for: the rows of one type, or of any (RFC 1034 section 3.7.1).
use Rattle.std.specs.Prelude.{◌==◌, map, not, if◌then◌else◌, Bool, List, [], ◌∷◌, ℕ}
use Rattle.std.specs.List.{filter, flat_map, range_with_len}
use Rattle.dns_wire.specs.codes.RecordType.{type_number, type_of}
use Rattle.dns_wire.specs.declared.codes.record_type.RecordType.{RecordType}
use Rattle.dns_records.specs.declared.row.Row.{Row}
use Rattle.dns_zone.specs.Rows.{Rows, rows_at}
use Rattle.dns_authority.specs.declared.asked.AnyAnswer.{AnyAnswer}
use Rattle.dns_authority.specs.declared.asked.AnyAnswer.TheVariants.{AllSets, FirstSet}
use Rattle.dns_authority.specs.declared.asked.Asked.{Asked}

-- whether a type is ANY (RFC 1035 section 3.2.3)
abbrev pub is_any : RecordType → Bool
is_any t = type_number t == 255

-- the numbers below a bound in the order in which a zone has the sets of a name: that of SOA, and then the others in ascending order
unfoldable pub numbers_below : ℕ → List ℕ
numbers_below bound = 6 ∷ filter (λ n. not (n == 6)) (range_with_len 0 bound)

-- the numbers of the types that ANY stands for: all of 16 bits (RFC 1035 section 3.2.3)
abbrev pub any_numbers : List ℕ
any_numbers = numbers_below 65536

-- the rows of the type with a number, at a name
abbrev pub rows_by_number : Rows → List (List ℕ) → ℕ → List Row
rows_by_number rows labels number = rows_at rows labels (type_of number)

-- the sets that have a row
abbrev pub filled : List (List Row) → List (List Row)
filled [] = []
filled ([] ∷ sets) = filled sets
filled ((row ∷ rows) ∷ sets) = (row ∷ rows) ∷ filled sets

-- the first of several sets that has a row
abbrev pub first_filled : List (List Row) → List Row
first_filled [] = []
first_filled ([] ∷ sets) = first_filled sets
first_filled ((row ∷ rows) ∷ sets) = row ∷ rows

-- the rows at a name that answer a question for ANY: those of all its sets, or of the first (RFC 8482 section 4.1)
abbrev pub any_rows : AnyAnswer → Rows → List (List ℕ) → List Row
any_rows AllSets rows labels = flat_map (rows_by_number rows labels) any_numbers
any_rows FirstSet rows labels = first_filled (map (rows_by_number rows labels) any_numbers)

-- the rows at a name that are asked for
abbrev pub asked_rows : Asked → Rows → List (List ℕ) → List Row
asked_rows asked rows labels =
    if is_any asked.record_type then any_rows asked.any rows labels else rows_at rows labels asked.record_type
