-- A pointer to a name (RFC 1035 section 3.3.12).
use Rattle.std.specs.Prelude.{List, [], ◌∷◌}
use Rattle.dns_data.specs.Field.{Kind, Values, CompressibleName}
use Rattle.dns_data.specs.declared.rdata.ptr.PTR.{PTR}

-- the kinds of the fields of PTR data: the name that is pointed to
abbrev pub ptr_kinds : List Kind
ptr_kinds = CompressibleName ∷ []

-- the values of these fields
abbrev pub ptr_values : PTR → Values ptr_kinds
ptr_values p = (p.0, tt)
