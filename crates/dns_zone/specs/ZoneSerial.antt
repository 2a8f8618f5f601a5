-- The serial number of a zone (RFC 1035 section 3.3.13).
use Rattle.std.specs.Prelude.{List, [], ◌∷◌, ℕ, Option, None}
use Rattle.dns_wire.specs.declared.codes.record_type.RecordType.TheVariants as types
use Rattle.dns_records.specs.declared.row.Row.{Row}
use Rattle.dns_differences.specs.serials.Record.{data_serial}
use Rattle.dns_zone.specs.Rows.{ZoneContent, rows_at}

-- the serial number of the first row, if it is one of an SOA record
abbrev pub rows_serial : List Row → Option ℕ
rows_serial [] = None
rows_serial (row ∷ rows) = data_serial row.rdata

-- the serial number of a zone: that of its SOA record
abbrev pub zone_serial : ZoneContent → Option ℕ
zone_serial zone = rows_serial (rows_at zone.rows zone.origin.labels types.SOA)
