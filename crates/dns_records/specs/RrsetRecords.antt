-- Iterators over the records of a set.
use Rattle.std.specs.Prelude.{List, []}
use Rattle.dns_records.specs.Record.{Record}
use Rattle.dns_records.specs.declared.rrset_records.RrsetRecords.{RrsetRecords}
use Rattle.dns_records.specs.declared.rrset_records.RrsetRecords.TheVariants.{Empty, RecordsOnly}

-- the records that are left
abbrev pub records_left : RrsetRecords → List Record
records_left Empty = []
records_left (RecordsOnly records) = records.now
