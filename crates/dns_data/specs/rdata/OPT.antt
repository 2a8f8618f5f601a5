-- The options of a message's extension (RFC 6891 section 6.1.2).
use Rattle.std.specs.Prelude.{List, [], ◌∷◌}
use Rattle.dns_data.specs.Field.{Kind, Values, Options, OptionValue}

-- the kinds of the fields of OPT data: options
abbrev pub opt_kinds : List Kind
opt_kinds = Options ∷ []

-- the values of these fields
abbrev pub opt_values : List OptionValue → Values opt_kinds
opt_values o = (o, tt)
