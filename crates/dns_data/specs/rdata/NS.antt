-- A name server (RFC 1035 section 3.3.11).
use Rattle.std.specs.Prelude.{List, [], ◌∷◌}
use Rattle.dns_data.specs.Field.{Kind, Values, CompressibleName}
use Rattle.dns_data.specs.declared.rdata.ns.NS.{NS}

-- the kinds of the fields of NS data: the host of a name server
abbrev pub ns_kinds : List Kind
ns_kinds = CompressibleName ∷ []

-- the values of these fields
abbrev pub ns_values : NS → Values ns_kinds
ns_values n = (n.0, tt)
