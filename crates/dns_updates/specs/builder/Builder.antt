-- Updates that are collected record by record (RFC 2136 sections 2.4 and 2.5).
use Rattle.std.specs.Prelude.{◌++◌, ℕ, [], ◌∷◌}
use Rattle.dns_wire.specs.declared.codes.dns_class.DNSClass.{DNSClass}
use Rattle.dns_names.specs.Name.{DomainName}
use Rattle.dns_data.specs.declared.rdata.RData.{RData}
use Rattle.dns_records.specs.Record.{Record}
use Rattle.dns_updates.specs.builder.Parts.{UpdateParts}

-- an update without prerequisites and changes
abbrev pub first_parts : DomainName → DNSClass → UpdateParts
first_parts zone dns_class = record { zone = zone; dns_class = dns_class; prerequisites = []; changes = [] }

-- an update with one more prerequisite, after the others
abbrev pub with_prerequisite : Record → UpdateParts → UpdateParts
with_prerequisite r parts = record parts { prerequisites = parts.prerequisites ++ r ∷ [] }

-- an update with one more change, after the others
abbrev pub with_change : Record → UpdateParts → UpdateParts
with_change r parts = record parts { changes = parts.changes ++ r ∷ [] }

-- a record with data
abbrev pub data_record : DNSClass → DomainName → ℕ → RData → Record
data_record dns_class owner ttl rdata = record { name = owner; dns_class = dns_class; ttl = ttl; rdata = rdata }
