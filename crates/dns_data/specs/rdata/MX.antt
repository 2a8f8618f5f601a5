-- A mail exchange: its preference and its name (RFC 1035 section 3.3.9).
use Rattle.std.specs.Prelude.{List, [], ◌∷◌}
use Rattle.dns_data.specs.Field.{Kind, Values, Number16, CompressibleName}
use Rattle.dns_data.specs.declared.rdata.mx.MX.{MX}

-- the kinds of the fields of MX data: preference and exchange
abbrev pub mx_kinds : List Kind
mx_kinds = Number16 ∷ CompressibleName ∷ []

-- the values of these fields
abbrev pub mx_values : MX → Values mx_kinds
mx_values m = (m.preference, (m.exchange, tt))
