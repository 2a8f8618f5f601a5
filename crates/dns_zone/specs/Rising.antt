-- How the serial number of a zone rises by itself (RFC 2136 section 3.6).
use Rattle.std.specs.Prelude.{List, [], ◌∷◌}
use Rattle.dns_wire.specs.declared.codes.record_type.RecordType.TheVariants as types
use Rattle.dns_data.specs.declared.rdata.RData.{RData}
use Rattle.dns_data.specs.declared.rdata.RData.TheVariants as of
use Rattle.dns_records.specs.Rows.{with_set}
use Rattle.dns_records.specs.declared.row.Row.{Row}
use Rattle.dns_differences.specs.serials.Serial.{next_serial}
use Rattle.dns_zone.specs.Rows.{Key, Rows, ZoneContent, key, rows_at}

-- the data of an SOA record with the next serial number
abbrev pub with_next_serial : RData → RData
with_next_serial (of.SOA soa) = of.SOA (record soa { serial = next_serial soa.serial })
with_next_serial other = other

-- the row of an SOA record with the next serial number
abbrev pub raised_row : Row → Row
raised_row row = record row { rdata = with_next_serial row.rdata }

-- where a zone has its SOA record
abbrev pub start_key : ZoneContent → Key
start_key zone = key zone.origin.labels types.SOA

-- the rows of the SOA record of a zone
abbrev pub start_rows : ZoneContent → List Row
start_rows zone = rows_at zone.rows zone.origin.labels types.SOA

-- rows whose set at a key is the first of some rows, with the next serial number, if there is one
abbrev pub raised_at : Rows → Key → List Row → Rows
raised_at rows k [] = rows
raised_at rows k (row ∷ more) = with_set rows k (raised_row row ∷ [])

-- a later version of a zone, with the SOA record of the older one, whose serial number is the next one
abbrev pub raised : ZoneContent → ZoneContent → ZoneContent
raised old new = record new { rows = raised_at new.rows (start_key old) (start_rows old) }
