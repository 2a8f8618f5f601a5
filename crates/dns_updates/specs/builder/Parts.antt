-- The parts of an update (RFC 2136 section 2).
use Rattle.std.specs.Prelude.{List}
use Rattle.dns_wire.specs.declared.codes.dns_class.DNSClass.{DNSClass}
use Rattle.dns_names.specs.Name.{DomainName}
use Rattle.dns_records.specs.Record.{Record}

-- an update of the zone with a name and a class: what must hold, and what is changed
pub record UpdateParts : Type 0 where
  pub zone : DomainName
  pub dns_class : DNSClass
  pub prerequisites : List Record
  pub changes : List Record
