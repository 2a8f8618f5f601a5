-- The records of differences, in the order of an incremental transfer (RFC 1995 section 4).
use Rattle.std.specs.Prelude.{◌+◌, ◌++◌, map, flat_map, length, List, [], ◌∷◌, ℕ}
use Rattle.dns_names.specs.Name.{DomainName}
use Rattle.dns_records.specs.Record.{Record}
use Rattle.dns_transfers.specs.Records.{owned_record}
use Rattle.dns_differences.specs.declared.difference.Difference.{Difference}
use Rattle.dns_transfers.specs.declared.incremental.difference_records.DifferenceRecords.{DifferenceRecords}

-- the records of the class IN, with their owners
abbrev pub with_owners : List Record → List Record
with_owners records = map (λ (r : Record). owned_record r.name r) records

-- records that a difference deletes, and those that it adds
abbrev pub records_of : Difference → List Record
records_of d = with_owners d.deleted.items ++ with_owners d.added.items

-- The records of an incremental transfer: the newest SOA record, those of the differences, and the SOA record again; it alone if
-- there is no difference (RFC 1995 sections 2 and 4).
abbrev pub incremental_records : List Record → List Difference → List Record
incremental_records start [] = start
incremental_records start (d ∷ ds) = start ++ (flat_map records_of (d ∷ ds) ++ start)

-- an SOA record, with the origin as its owner
abbrev pub owned_by : DomainName → List Record → List Record
owned_by origin records = map (owned_record origin) records

-- the records that an iterator has not returned
abbrev pub remaining : DifferenceRecords → List Record
remaining s =
    owned_by s.origin.now s.first.now
    ++ (with_owners s.records.now
    ++ (with_owners s.added.now ++ (flat_map records_of s.differences.now ++ owned_by s.origin.now s.last.now)))

-- the number of records that differences add, and of the differences
abbrev pub added_len : List Difference → ℕ
added_len [] = 0
added_len (d ∷ ds) = (length d.added.items + 1) + added_len ds

-- how often an iterator can go on to the part after the one under way, at most
abbrev pub parts_left : DifferenceRecords → ℕ
parts_left s = length s.added.now + added_len s.differences.now
