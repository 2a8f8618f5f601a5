-- Names and texts that a caller passes as bytes.
use Rattle.std.specs.Prelude.{true, List, [], ◌∷◌, ℕ, Option, Some, None, Result, Ok, Err}
use Rattle.dns_names.specs.Name.{DomainName}
use Rattle.dns_names.specs.Parse.{name_of_text}
use Rattle.dns_names.specs.declared.error.ParseError.{ParseError}
use Rattle.api.specs.declared.buffer.refusal.Refusal.{Refusal}
use Rattle.api.specs.declared.buffer.refusal.Refusal.TheVariants as refusal

-- a name, fully qualified
abbrev pub qualified : Result DomainName ParseError → Result DomainName Refusal
qualified (Ok name) = Ok (record name { is_fqdn = true })
qualified (Err error) = Err refusal.Name

-- the fully qualified name that a text is
abbrev pub name_in : List ℕ → Result DomainName Refusal
name_in text = qualified (name_of_text text)

-- an origin that is there
abbrev pub present : Result DomainName Refusal → Result (Option DomainName) Refusal
present (Ok name) = Ok (Some name)
present (Err error) = Err error

-- the origin that a text is, or none if the text is empty
abbrev pub origin_in : List ℕ → Result (Option DomainName) Refusal
origin_in [] = Ok None
origin_in (first ∷ rest) = present (name_in (first ∷ rest))
