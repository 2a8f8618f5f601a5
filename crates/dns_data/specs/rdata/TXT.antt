-- Texts: one or more character strings (RFC 1035 section 3.3.14).
use Rattle.std.specs.Prelude.{ℕ, List, [], ◌∷◌}
use Rattle.dns_data.specs.Field.{Kind, Values, Strings}

-- the kinds of the fields of TXT data: character strings
abbrev pub txt_kinds : List Kind
txt_kinds = Strings ∷ []

-- the values of these fields
abbrev pub txt_values : List (List ℕ) → Values txt_kinds
txt_values t = (t, tt)
