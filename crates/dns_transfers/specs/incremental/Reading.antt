-- How a client reads an incremental transfer, and what it has once it has applied what it read (RFC 1995 section 4).
use Rattle.std.specs.Prelude.{◌≡◌, ◌++◌, not, is_some, flat_map, Bool, true, false, List, [], ◌∷◌}
use Rattle.std.specs.List.{filter, AllByRecursion}
use Rattle.dns_records.specs.Record.{Record}
use Rattle.dns_differences.specs.Difference.{is_among, serial_of}
use Rattle.dns_differences.specs.declared.difference.Difference.{Difference}
use Rattle.dns_transfers.specs.incremental.DifferenceRecords.{with_owners}

-- whether a record is an SOA record
abbrev pub is_soa : Record → Bool
is_soa r = is_some (serial_of r.rdata)

-- the deleted or the added records of a difference: an SOA record, and others that are none
pub record IsPart (records : List Record) : Type 0 where
  pub start : Record
  pub others : List Record
  pub split : records ≡ start ∷ others
  pub is_start : is_soa start ≡ true
  pub no_other : AllByRecursion (λ r. is_soa r ≡ false) others

-- a difference sequence of a transfer: deleted records and added records
pub record Sequence : Type 0 where
  pub deleted : List Record
  pub added : List Record

-- Deleted records begin with the older SOA record, and added records with the newer one.
pub record IsSequence (s : Sequence) : Type 0 where
  pub deleted : IsPart s.deleted
  pub added : IsPart s.added

-- the records of a difference sequence
abbrev pub sequence_records : Sequence → List Record
sequence_records s = s.deleted ++ s.added

-- the difference sequence of a difference
abbrev pub sequence_of : Difference → Sequence
sequence_of d = record { deleted = with_owners d.deleted.items; added = with_owners d.added.items }

-- A client reads these difference sequences in the records of a transfer: the current SOA record precedes and follows them, and
-- it is alone if there is none.
abbrev pub Reads : List Record → List Sequence → Type 0
Reads records [] = (soa : Record) × ((is_soa soa ≡ true) × (records ≡ soa ∷ []))
Reads records (s ∷ more) =
    (soa : Record) × ((is_soa soa ≡ true) × (AllByRecursion IsSequence (s ∷ more)
    × (records ≡ soa ∷ (flat_map sequence_records (s ∷ more) ++ soa ∷ []))))

-- The records of a client after a difference sequence: it removes those that are deleted, and adds the others.
abbrev pub changed_by : Sequence → List Record → List Record
changed_by s records = filter (λ r. not (is_among s.deleted r)) records ++ s.added

-- the records of a client after difference sequences, one after another
abbrev pub changed_by_all : List Sequence → List Record → List Record
changed_by_all [] records = records
changed_by_all (s ∷ more) records = changed_by_all more (changed_by s records)
