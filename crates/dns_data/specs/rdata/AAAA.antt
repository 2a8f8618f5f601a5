-- An IPv6 address (RFC 3596 section 2.2).
use Rattle.std.specs.Prelude.{List, [], ◌∷◌}
use Rattle.dns_data.specs.Field.{Kind, Values, Address6}
use Rattle.dns_data.specs.declared.rdata.aaaa.AAAA.{AAAA}

-- the kinds of the fields of AAAA data: an IPv6 address
abbrev pub aaaa_kinds : List Kind
aaaa_kinds = Address6 ∷ []

-- the values of these fields
abbrev pub aaaa_values : AAAA → Values aaaa_kinds
aaaa_values a = (a.0, tt)
