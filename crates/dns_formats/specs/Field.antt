-- The fields of record data, by its type.
use Rattle.std.specs.Prelude.{ℕ, ◌==◌, not, if◌then◌else◌, Bool, true, false, List, [], ◌∷◌, Option, Some, None, map}
use Rattle.dns_formats.specs.declared.field.Field.{Field}
use Rattle.dns_formats.specs.declared.field.Field.TheVariants.{Hex, Base64, Types, Parameters, Location}
use Rattle.dns_formats.specs.declared.field.TheConstants.{FORMATS}

-- whether a field takes all tokens that are left
abbrev pub takes_rest : Field → Bool
takes_rest Hex = true
takes_rest Base64 = true
takes_rest Types = true
takes_rest Parameters = true
takes_rest Location = true
takes_rest field = false

-- whether a field may have no token at all
abbrev pub may_be_empty : Field → Bool
may_be_empty Types = true
may_be_empty Parameters = true
may_be_empty field = false

-- whether fields begin with one that has a token
abbrev pub begins : List Field → Bool
begins [] = false
begins (field ∷ fields) = not (may_be_empty field)

-- the fields of the type with a number, in a table
abbrev pub fields_among : List (ℕ × List Field) → ℕ → Option (List Field)
fields_among [] number = None
fields_among (line ∷ lines) number = if line.0 == number then Some line.1 else fields_among lines number

-- the table of the fields of each type, which the code has
abbrev pub formats : List (ℕ × List Field)
formats = map (λ line. (line.0, line.1.now)) FORMATS.now

-- the fields of the type with a number
abbrev pub fields_of : ℕ → Option (List Field)
fields_of number = fields_among formats number
