-- The canonical name of an alias (RFC 1035 section 3.3.1).
use Rattle.std.specs.Prelude.{List, [], ◌∷◌}
use Rattle.dns_data.specs.Field.{Kind, Values, CompressibleName}
use Rattle.dns_data.specs.declared.rdata.cname.CNAME.{CNAME}

-- the kinds of the fields of CNAME data: the canonical name
abbrev pub cname_kinds : List Kind
cname_kinds = CompressibleName ∷ []

-- the values of these fields
abbrev pub cname_values : CNAME → Values cname_kinds
cname_values c = (c.0, tt)
