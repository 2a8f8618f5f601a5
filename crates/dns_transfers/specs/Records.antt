-- Records that are left to be sent, and those of them that have room in a message.
use Rattle.std.specs.Prelude.{◌≡◌, ◌-◌, ◌++◌, map, nat_lt, if◌then◌else◌, List, [], ◌∷◌, ℕ, Option, Some, None, option_map}
use Rattle.dns_wire.specs.declared.codes.dns_class.DNSClass.TheVariants.{IN}
use Rattle.dns_messages.specs.Cut.{listed}
use Rattle.dns_names.specs.Name.{DomainName}
use Rattle.dns_records.specs.Record.{Record}
use Rattle.dns_message_bytes.specs.soundness.Size.{record_len}
use Rattle.dns_transfers.specs.declared.batch.Batch.{Batch}
use Rattle.dns_transfers.specs.declared.lent_record.LentRecord.{LentRecord}
use Rattle.dns_transfers.specs.declared.records.Records.{Records}

-- the record of the class IN with an owner, and with the TTL and the data of another
abbrev pub owned_record : DomainName → Record → Record
owned_record owner stored = record { name = owner; dns_class = IN; ttl = stored.ttl; rdata = stored.rdata }

-- the record whose parts are borrowed
abbrev pub lent_record : LentRecord → Record
lent_record r = owned_record r.owner.now r.stored.now

-- borrowed records
abbrev pub batch_records : Batch → List Record
batch_records b = map lent_record b.records.now

-- the first of the records that are left is returned, or none is left
abbrev pub IsNext : List Record → Option LentRecord → List Record → Type 0
IsNext old None new = (old ≡ []) × (new ≡ [])
IsNext old (Some r) new = old ≡ lent_record r ∷ new

-- the records that are left: the next, and those of the source
abbrev pub left_of : {S : Type 0} → (S → List Record) → Records S → List Record
left_of left r = listed (option_map {T = LentRecord} {U = Record} lent_record r.next) ++ left r.rest

-- The next record is known now, or none is left; nothing is taken.
abbrev pub IsPeeked : {S : Type 0} → (S → List Record) → Records S → Option LentRecord → Records S → Type 0
IsPeeked left old None new = (left_of left old ≡ []) × (left_of left new ≡ [])
IsPeeked left old (Some r) new = (new.next ≡ Some r) × (left_of left new ≡ left_of left old)

-- the records, from the first on, that have room in so many bytes without compression
abbrev pub front : ℕ → List Record → List Record
front room [] = []
front room (r ∷ rs) = if nat_lt room (record_len r) then [] else r ∷ front (room - record_len r) rs
