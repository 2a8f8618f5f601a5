-- The tokens of record data, field by field.
use Rattle.std.specs.Prelude.{ℕ, ◌+◌, not, if◌then◌else◌, Bool, false, List, [], ◌∷◌, length, drop, Option, Result, Ok, Err}
use Rattle.dns_names.specs.Name.{DomainName}
use Rattle.dns_text.specs.Lexer.{Lexeme}
use Rattle.dns_formats.specs.Fault.{fault_at}
use Rattle.dns_formats.specs.Field.{takes_rest, may_be_empty}
use Rattle.dns_formats.specs.Value.{append_to, value_bytes}
use Rattle.dns_formats.specs.Rest.{rest_bytes}
use Rattle.dns_formats.specs.declared.fault.TokenFault.{TokenFault}
use Rattle.dns_formats.specs.declared.fault.TokenFault.TheVariants.{NotAWord}
use Rattle.dns_formats.specs.declared.fault.FormatFault.{FormatFault}
use Rattle.dns_formats.specs.declared.fault.FormatFault.TheVariants.{MissingToken, UnexpectedToken}
use Rattle.dns_formats.specs.declared.field.Field.{Field}

-- how many of the tokens a field takes: one, or all
abbrev pub taken : Field → List Lexeme → ℕ
taken field tokens = if takes_rest field then length tokens else 1

-- whether a field has no token, but needs one
abbrev pub is_missing : Field → List Lexeme → Bool
is_missing field [] = not (may_be_empty field)
is_missing field (token ∷ tokens) = false

-- the bytes of a field of one token, the first
abbrev pub first_bytes : Option DomainName → Field → List Lexeme → Result (List ℕ) TokenFault
first_bytes origin field [] = Err NotAWord
first_bytes origin field (token ∷ tokens) = value_bytes origin field token

-- the bytes of a field, from the tokens that are left
abbrev pub field_bytes : Option DomainName → Field → List Lexeme → Result (List ℕ) TokenFault
field_bytes origin field tokens = if takes_rest field then rest_bytes field tokens else first_bytes origin field tokens

-- the outcome of a field, with the number of its first token in the fault
abbrev pub located : ℕ → Result (List ℕ) TokenFault → Result (List ℕ) FormatFault
located place (Ok bytes) = Ok bytes
located place (Err fault) = Err (fault_at place fault)

-- the bytes of a field before those of the fields after it, or the first fault
abbrev pub then_bytes : Result (List ℕ) FormatFault → Result (List ℕ) FormatFault → Result (List ℕ) FormatFault
then_bytes (Ok bytes) more = append_to bytes more
then_bytes (Err fault) more = Err fault

-- The bytes of fields, one after another, or the first fault. The first of the tokens has the number `place`.
abbrev pub fields_bytes : Option DomainName → List Field → ℕ → List Lexeme → Result (List ℕ) FormatFault
fields_bytes origin [] place [] = Ok []
fields_bytes origin [] place (token ∷ tokens) = Err (UnexpectedToken place)
fields_bytes origin (field ∷ fields) place tokens =
    if is_missing field tokens then Err (MissingToken place) else
    then_bytes (located place (field_bytes origin field tokens))
    (fields_bytes origin fields (place + taken field tokens) (drop (taken field tokens) tokens))
