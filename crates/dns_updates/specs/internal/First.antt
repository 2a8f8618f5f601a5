-- Whether an SOA succeeds the first record of its set.
use Rattle.std.specs.Prelude.{Bool, false, Option, Some, None}
use Rattle.dns_records.specs.declared.row.Row.{Row}
use Rattle.dns_records.specs.Record.{Record}
use Rattle.dns_updates.specs.Change.{succeeds}

-- whether a record is an SOA with a greater serial number than the first row, if there is one
abbrev pub succeeds_first : Option Row → Record → Bool
succeeds_first None r = false
succeeds_first (Some old) r = succeeds r.rdata old.rdata
