-- The location of a service: priority, weight, port and target (RFC 2782).
use Rattle.std.specs.Prelude.{List, [], ◌∷◌}
use Rattle.dns_data.specs.Field.{Kind, Values, Number16, WholeName}
use Rattle.dns_data.specs.declared.rdata.srv.SRV.{SRV}

-- the kinds of the fields of SRV data: priority, weight and port, and the target, which is never compressed
abbrev pub srv_kinds : List Kind
srv_kinds = Number16 ∷ Number16 ∷ Number16 ∷ WholeName ∷ []

-- the values of these fields
abbrev pub srv_values : SRV → Values srv_kinds
srv_values s = (s.priority, (s.weight, (s.port, (s.target, tt))))
