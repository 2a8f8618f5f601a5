-- An IPv4 address (RFC 1035 section 3.4.1).
use Rattle.std.specs.Prelude.{List, [], ◌∷◌}
use Rattle.dns_data.specs.Field.{Kind, Values, Address4}
use Rattle.dns_data.specs.declared.rdata.a.A.{A}

-- the kinds of the fields of A data: an IPv4 address
abbrev pub a_kinds : List Kind
a_kinds = Address4 ∷ []

-- the values of these fields
abbrev pub a_values : A → Values a_kinds
a_values a = (a.0, tt)
