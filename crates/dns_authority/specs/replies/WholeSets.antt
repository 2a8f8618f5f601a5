-- Sections of whole sets of records (RFC 2181 sections 5 and 9).
use Rattle.std.specs.Prelude.{◌==◌, ◌&&◌, if◌then◌else◌, Bool, false, zero, suc, List, ℕ, Option, Some, slice_get}
use Rattle.dns_wire.specs.codes.RecordType.{type_number}
use Rattle.dns_data.specs.rdata.{data_type}
use Rattle.dns_names.specs.Compare.{same_labels}
use Rattle.dns_records.specs.Record.{Record}

-- whether two records are of one set: they have the same owner, ignoring ASCII case, and the same type
abbrev pub are_one_set : Record → Record → Bool
are_one_set r s = same_labels r.name.labels s.name.labels && (type_number (data_type r.rdata) == type_number (data_type s.rdata))

-- the same of records that may be missing
abbrev pub are_both_of_one_set : Option Record → Option Record → Bool
are_both_of_one_set (Some r) (Some s) = are_one_set r s
are_both_of_one_set r s = false

-- whether the record at a place is of the set of the one before it
abbrev pub continues_set : List Record → ℕ → Bool
continues_set records zero = false
continues_set records (suc n) = are_both_of_one_set (slice_get records n) (slice_get records (suc n))

-- The place of the first record of the set that is at a place. The records before it are whole sets, where those of each set follow
-- one another.
unfoldable pub set_start : List Record → ℕ → ℕ
set_start records zero = zero
set_start records (suc n) = if continues_set records (suc n) then set_start records n else suc n
