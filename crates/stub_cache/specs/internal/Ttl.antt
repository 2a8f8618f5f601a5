-- The steps by which the least TTL of the records that decide a lifetime is found.
use Rattle.std.specs.Prelude.{ℕ, Bool, ◌==◌, ◌&&◌, ◌||◌, not, Option, Some, None}
use Rattle.std.specs.declared.ops.RangeInclusive.{RangeInclusive}
use Rattle.dns_wire.specs.codes.RecordType.{type_number}
use Rattle.dns_wire.specs.declared.codes.record_type.RecordType.{RecordType}
use Rattle.dns_wire.specs.declared.codes.record_type.RecordType.TheVariants as types
use Rattle.dns_data.specs.rdata.{data_type}
use Rattle.dns_records.specs.Record.{Record}
use Rattle.stub_cache.specs.Ttl.{TtlRange, lesser}

-- the least and the greatest TTL of a range of std
abbrev pub range_between : RangeInclusive ℕ → TtlRange
range_between range = record { least = range.start; greatest = range.end }

-- whether two types have the same number
abbrev pub is_same_type : RecordType → RecordType → Bool
is_same_type kind other = type_number kind == type_number other

-- Whether records of a type decide how long a response to a question of a type is stored: those that were asked for, and
-- aliases unless the question asks for NS.
abbrev pub is_deciding : RecordType → RecordType → Bool
is_deciding asked kind = is_same_type kind asked || (is_same_type kind types.CNAME && not (is_same_type asked types.NS))

-- whether a record decides how long a response to a question of a type is stored
abbrev pub is_deciding_record : RecordType → Record → Bool
is_deciding_record asked r = is_deciding asked (data_type r.rdata)

-- the lesser of two TTLs, or the only one
abbrev pub lesser_of : Option ℕ → Option ℕ → Option ℕ
lesser_of None second = second
lesser_of (Some ttl) second = Some (lesser ttl second)
