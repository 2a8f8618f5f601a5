-- The start of a zone's authority: two names, the serial, and four times (RFC 1035 section 3.3.13).
use Rattle.std.specs.Prelude.{List, [], ◌∷◌}
use Rattle.dns_data.specs.Field.{Kind, Values, CompressibleName, Number32, Seconds}
use Rattle.dns_data.specs.declared.rdata.soa.SOA.{SOA}

-- the kinds of the fields of SOA data: two names, the serial number and four times
abbrev pub soa_kinds : List Kind
soa_kinds = CompressibleName ∷ CompressibleName ∷ Number32 ∷ Seconds ∷ Seconds ∷ Seconds ∷ Seconds ∷ []

-- the values of these fields
abbrev pub soa_values : SOA → Values soa_kinds
soa_values s = (s.mname, (s.rname, (s.serial, (s.refresh, (s.retry, (s.expire, (s.minimum, tt)))))))
