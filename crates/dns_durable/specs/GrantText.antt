-- Grants from words.
use Rattle.std.specs.Prelude.{ℕ, true, List, [], ◌∷◌, ◌++◌, Some, None, Result, Ok, Err}
use Rattle.dns_wire.specs.codes.CodeText.{type_of_text}
use Rattle.dns_wire.specs.declared.codes.record_type.RecordType.{RecordType}
use Rattle.dns_names.specs.Name.{DomainName}
use Rattle.dns_names.specs.Parse.{name_of_text}
use Rattle.dns_tsig.specs.WireName.{canonical_name}
use Rattle.dns_keys.specs.declared.grants.grant.Grant.{Grant}
use Rattle.dns_durable.specs.declared.error.GrantError.{GrantError}
use Rattle.dns_durable.specs.declared.error.GrantError.TheVariants as errors

-- a grant, by what it is made of
pub record GrantValue : Type 0 where
  pub key : List ℕ
  pub subtree : DomainName
  pub types : List RecordType

-- what a grant is made of
abbrev pub grant_value : Grant → GrantValue
grant_value grant = record { key = grant.key.items; subtree = grant.subtree; types = grant.types.items }

-- what follows a success
abbrev pub then_try : {X Y : Type 0} → Result X GrantError → (X → Result Y GrantError) → Result Y GrantError
then_try (Ok x) next = next x
then_try (Err e) next = Err e

-- the name of a word
abbrev pub name_in : GrantError → List ℕ → Result DomainName GrantError
name_in error word = elim (name_of_text word) [ Ok name ↦ Ok name | Err fault ↦ Err error ]

-- the record type of a word
abbrev pub type_in : List ℕ → Result RecordType GrantError
type_in word = elim (type_of_text word) [ Some kind ↦ Ok kind | None ↦ Err errors.Type ]

-- the record types of words that follow others
abbrev pub types_after : List RecordType → List (List ℕ) → Result (List RecordType) GrantError
types_after types [] = Ok types
types_after types (word ∷ words) =
    elim (type_in word) [ Ok kind ↦ types_after (types ++ kind ∷ []) words | Err error ↦ Err error ]

-- the grant of words: the name of a key, that of a subtree, which is taken as fully qualified, and record types
abbrev pub grant_in : List (List ℕ) → Result GrantValue GrantError
grant_in [] = Err errors.Missing
grant_in (key ∷ []) = Err errors.Missing
grant_in (key ∷ subtree ∷ words) =
    then_try (name_in errors.Key key) (λ name.
    then_try (name_in errors.Subtree subtree) (λ below.
    then_try (types_after [] words) (λ types.
    Ok (record { key = canonical_name name.labels; subtree = record below { is_fqdn = true }; types = types }))))
