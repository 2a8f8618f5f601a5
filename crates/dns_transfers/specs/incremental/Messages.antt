-- The messages of an incremental transfer (RFC 1995 section 4).
use Rattle.std.specs.Prelude.{map, false, List, ℕ}
use Rattle.std.specs.List.{AllByRecursion}
use Rattle.dns_wire.specs.declared.codes.record_type.RecordType.TheVariants as types
use Rattle.dns_messages.specs.declared.message.Message.{Message}
use Rattle.dns_messages.specs.Sound.{IsSoundIn}
use Rattle.dns_records.specs.Record.{Record}
use Rattle.dns_transfers.specs.Sending.{start, CannotSend, SendsAll}
use Rattle.dns_zone.specs.Answer.{record_of}
use Rattle.dns_zone.specs.Rows.{ZoneContent, rows_at}
use Rattle.dns_differences.specs.declared.difference.Difference.{Difference}
use Rattle.dns_transfers.specs.incremental.DifferenceRecords.{incremental_records}

-- the SOA record of a zone
abbrev pub soa_records : ZoneContent → List Record
soa_records zone = map (record_of zone.origin) (rows_at zone.rows zone.origin.labels types.SOA)

-- the messages have the records of differences that lead to a zone
abbrev pub SendsDifferences : ZoneContent → List Difference → Message → List (List ℕ) → Type 0
SendsDifferences zone ds request messages = SendsAll (start request (incremental_records (soa_records zone) ds)) messages

-- a record of differences that lead to a zone has no room in a message
abbrev pub CannotSendDifferences : ZoneContent → List Difference → Message → Type 0
CannotSendDifferences zone ds request = CannotSend (start request (incremental_records (soa_records zone) ds))

-- each record of differences can be encoded in a message, and decoded again
pub record IsSoundDifference (d : Difference) : Type 0 where
  pub deleted : AllByRecursion (IsSoundIn false) d.deleted.items
  pub added : AllByRecursion (IsSoundIn false) d.added.items
