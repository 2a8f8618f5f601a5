-- The records of a zone, in the order of a transfer (RFC 5936 section 2.2).
use Rattle.std.specs.Prelude.{◌+◌, ◌++◌, map, flat_map, length, List, [], ◌∷◌, ℕ}
use Rattle.dns_names.specs.Name.{DomainName}
use Rattle.dns_records.specs.Record.{Record}
use Rattle.dns_records.specs.RecordSet.{RecordSetValue}
use Rattle.dns_transfers.specs.Records.{owned_record}
use Rattle.dns_transfers.specs.declared.whole.zone_records.ZoneRecords.{ZoneRecords}

-- records with an owner
abbrev pub owned_by : DomainName → List Record → List Record
owned_by owner records = map (owned_record owner) records

-- the records of a set
abbrev pub records_of_set : RecordSetValue → List Record
records_of_set s = owned_by s.name s.records

-- The records of a zone with these sets, of which the first is that of the SOA record: it, the records of the other sets, and the
-- SOA record again.
abbrev pub transfer_records : DomainName → List RecordSetValue → List Record
transfer_records origin [] = []
transfer_records origin (s ∷ sets) =
    owned_by origin s.records ++ (flat_map records_of_set sets ++ owned_by origin s.records)

-- the records that an iterator has not returned
abbrev pub remaining : ZoneRecords → List Record
remaining z = owned_by z.owner.now z.records.now ++ (flat_map records_of_set z.sets ++ owned_by z.origin.now z.last.now)

-- how often an iterator can go on to records behind those of the set under way, at most
abbrev pub sets_left : ZoneRecords → ℕ
sets_left z = length z.sets + length z.last.now
