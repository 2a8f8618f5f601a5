-- Tokens that are refused before memory is taken: a missing one, and one that is no number or address.
use Rattle.std.proofs.Common.{◌≡◌, ◌≢◌, true, List, [], ◌∷◌, Option}
use Rattle.dns_names.specs.Name.{DomainName}
use Rattle.dns_text.specs.Lexer.{Lexeme}
use Rattle.dns_data.specs.Field.{Kind, CompressibleName, WholeName, Strings, Options, Opaque, ValueOf}
use Rattle.dns_data.specs.Text.{Takes, RefusesToken}
use Rattle.dns_data.specs.Memory.{is_fixed}
use Rattle.dns_data.specs.declared.error.RDataParseError.{RDataParseError}
use Rattle.dns_data.specs.declared.error.RDataParseError.TheVariants.{MissingToken, Memory}

-- a number or an address is refused by another error than want of memory
pub no_memory_refused : (origin : Option DomainName) (kind : Kind) (tokens : List Lexeme) (error : RDataParseError) → is_fixed kind ≡ true → RefusesToken origin kind tokens error → error ≢ Memory
no_memory_refused origin kind [] error fixed r = λ memory. absurd (cc (r, memory))
no_memory_refused origin CompressibleName (token ∷ tokens) error fixed r = absurd (cc fixed)
no_memory_refused origin WholeName (token ∷ tokens) error fixed r = absurd (cc fixed)
no_memory_refused origin Strings (token ∷ tokens) error fixed r = absurd (cc fixed)
no_memory_refused origin Options (token ∷ tokens) error fixed r = absurd (cc fixed)
no_memory_refused origin Opaque (token ∷ tokens) error fixed r = absurd (cc fixed)
no_memory_refused origin kind (token ∷ tokens) error fixed r = λ memory. absurd (cc (r.1, memory))

-- without a token one is missing
pub missing_refused : (origin : Option DomainName) (kind : Kind) (tokens : List Lexeme) (error : RDataParseError) → RefusesToken origin kind tokens error → tokens ≡ [] → error ≡ MissingToken
missing_refused origin kind [] error r none = r
missing_refused origin kind (token ∷ tokens) error r none = absurd (cc none)

-- and no value is parsed
pub missing_taken : (origin : Option DomainName) (kind : Kind) (tokens : List Lexeme) (value : ValueOf kind) (rest : List Lexeme) → Takes origin kind tokens value rest → tokens ≡ [] → ⊥
missing_taken origin Strings tokens value rest takes none = takes.0 none
missing_taken origin kind [] value rest takes none = takes
missing_taken origin kind (token ∷ tokens) value rest takes none = absurd (cc none)
