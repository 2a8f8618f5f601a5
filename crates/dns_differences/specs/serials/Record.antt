-- The serial number of an SOA record (RFC 1035 section 3.3.13).
use Rattle.std.specs.Prelude.{ℕ, Option, Some, None}
use Rattle.dns_data.specs.declared.rdata.RData.{RData}
use Rattle.dns_data.specs.declared.rdata.RData.TheVariants as of

-- the serial number of SOA data; other data has none
abbrev pub data_serial : RData → Option ℕ
data_serial (of.SOA soa) = Some soa.serial
data_serial other = None
