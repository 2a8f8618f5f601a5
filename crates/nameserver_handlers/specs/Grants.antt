-- Grants, by the texts that state them, and rules of faults: for which names of zones they are.
use Rattle.std.specs.Prelude.{◌≡◌, ◌≢◌, ◌==◌, ◌&&◌, ◌||◌, ◌++◌, if◌then◌else◌, ⊤, bytes_eq, codes, filter, length, map, not, slice_get, true, false, Bool, ℕ, List, [], ◌∷◌, Option, Some, None, Ok, Err}
use Rattle.std.specs.List.{list_any, slice_split}
use Rattle.dns_durable.specs.GrantText.{grant_in, grant_value}
use Rattle.dns_faults.specs.declared.rules.rule.NamePattern.{NamePattern}
use Rattle.dns_faults.specs.declared.rules.rule.NamePattern.TheVariants as names
use Rattle.dns_durable.specs.declared.error.GrantError.{GrantError}
use Rattle.dns_durable.specs.declared.error.GrantError.TheVariants as errors
use Rattle.dns_keys.specs.File.{IsKeyFile, IsRefused, key_value}
use Rattle.dns_keys.specs.declared.error.KeyFileError.{KeyFileError}
use Rattle.dns_keys.specs.declared.error.KeyFileError.TheVariants as files
use Rattle.dns_keys.specs.declared.grants.grant.Grant.{Grant}
use Rattle.dns_names.specs.Compare.{at_or_below}
use Rattle.dns_names.specs.Name.{DomainName}
use Rattle.dns_tsig.specs.declared.key.Key.{Key}
use Rattle.dns_zone.specs.Rows.{ZoneContent}
use Rattle.nameserver_cli.specs.Ending.{IsOfInvalidValue}
use Rattle.nameserver_cli.specs.declared.ending.Ending.{Ending}

-- whether an octet is a space
abbrev pub is_space : ℕ → Bool
is_space octet = octet == 32

-- whether a text is a word: it is not empty
abbrev pub is_word : List ℕ → Bool
is_word text = not (length text == 0)

-- the words of a text, which spaces separate
abbrev pub words_of : List ℕ → List (List ℕ)
words_of text = filter is_word (slice_split is_space text)

-- whether two subtrees have a name in common
abbrev pub overlap : DomainName → DomainName → Bool
overlap a b = at_or_below b.labels a.labels || at_or_below a.labels b.labels

-- whether one of keys has a name in canonical form
abbrev pub has_name : List Key → List ℕ → Bool
has_name keys name = list_any (λ key. bytes_eq key.name.items name) keys

-- whether one of zones has a name of a subtree
abbrev pub has_name_below : List ZoneContent → DomainName → Bool
has_name_below zones subtree = list_any (λ zone. overlap subtree zone.origin) zones

-- whether a grant permits something: there is its key, and a name of its subtree
abbrev pub permits_something : List Key → List ZoneContent → Grant → Bool
permits_something keys zones grant = has_name keys grant.key.items && has_name_below zones grant.subtree

-- a grant is what a text states, for one of keys and for names of zones
pub record IsGrantOf (keys : List Key) (zones : List ZoneContent) (text : List ℕ) (grant : Grant) : Type 0 where
  pub stated : grant_in (words_of text) ≡ Ok (grant_value grant)
  pub permits : permits_something keys zones grant ≡ true

-- why a grant permits nothing, if it does not
abbrev pub unusable : List Key → List ZoneContent → Grant → Option (List ℕ)
unusable keys zones grant =
    if has_name keys grant.key.items then (if has_name_below zones grant.subtree then None else Some (codes "no zone here has this name"))
    else Some (codes "no key file has this key")

-- a text states no grant, or one that permits nothing
pub data RefusesGrant (keys : List Key) (zones : List ZoneContent) (text : List ℕ) (ending : Ending) : Type 0 where
  states_none : (error : GrantError) (reason : List ℕ) → error ≢ errors.Memory → grant_in (words_of text) ≡ Err error
      → IsOfInvalidValue (codes "grant") text reason ending → RefusesGrant keys zones text ending
  permits_nothing : (grant : Grant) (reason : List ℕ) → grant_in (words_of text) ≡ Ok (grant_value grant) → unusable keys zones grant ≡ Some reason
      → IsOfInvalidValue (codes "grant") text reason ending → RefusesGrant keys zones text ending

-- one of several texts does
pub record RefusesOne (keys : List Key) (zones : List ZoneContent) (texts : List (List ℕ)) (ending : Ending) : Type 0 where
  pub place : ℕ
  pub text : List ℕ
  pub one : slice_get texts place ≡ Some text
  pub refused : RefusesGrant keys zones text ending

-- ---- keys

-- no key has the name of one of these, or of one before it
abbrev pub AreDistinct : List Key → List Key → Type 0
AreDistinct keys [] = ⊤
AreDistinct keys (key ∷ more) = (has_name keys key.name.items ≡ false) × AreDistinct (keys ++ key ∷ []) more

-- a key has the name of one of these, or of one before it
pub record HasTwice (keys found : List Key) : Type 0 where
  pub before : List Key
  pub key : Key
  pub after : List Key
  pub found_are : found ≡ before ++ key ∷ after
  pub is_known : has_name (keys ++ before) key.name.items ≡ true

-- keys are added that are those of a text, at least one
pub record AddsKeys (text : List ℕ) (old new : List Key) : Type 0 where
  pub found : List Key
  pub stated : IsKeyFile text (map key_value found)
  pub some : found ≢ []
  pub distinct : AreDistinct old found
  pub new_are : new ≡ old ++ found

-- a text is not that of keys, has none, or has one that is known
pub data RefusesKeys (text : List ℕ) (keys : List Key) : Type 0 where
  states_no_keys : (error : KeyFileError) → error ≢ files.Memory → IsRefused text error → RefusesKeys text keys
  has_no_key : IsKeyFile text [] → RefusesKeys text keys
  has_key_twice : (found : List Key) → IsKeyFile text (map key_value found) → HasTwice keys found → RefusesKeys text keys

-- ---- rules of faults

-- whether a pattern matches a name at or below an origin
abbrev pub may_match : NamePattern → DomainName → Bool
may_match names.Any origin = true
may_match (names.Exactly name) origin = at_or_below origin.labels name.labels
may_match (names.Below above) origin = overlap above origin
