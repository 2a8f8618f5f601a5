-- Where the records that a resolver returns come from.
use Rattle.std.specs.Prelude.{◌≡◌, ◌||◌, Bool, true, false, All, Contains, List, [], ◌∷◌, ℕ, Option, Some, None, Result, Ok, Err}
use Rattle.std.specs.declared.net.ip_addr.IpAddr.{IpAddr}
use Rattle.dns_wire.specs.declared.codes.record_type.RecordType.{RecordType}
use Rattle.dns_wire.specs.declared.codes.record_type.RecordType.TheVariants as types
use Rattle.dns_names.specs.Name.{DomainName}
use Rattle.dns_names.specs.declared.error.ParseError.{ParseError}
use Rattle.dns_records.specs.Record.{Record}
use Rattle.dns_messages.specs.Response.{has_type}
use Rattle.dns_messages.specs.declared.query.Query.{Query}
use Rattle.dns_messages.specs.declared.response.DnsResponse.{DnsResponse}
use Rattle.stub_lookup.specs.Lookup.{LookupContent}
use Rattle.stub_cache.specs.Cache.{CacheContent}
use Rattle.stub_hosts.specs.Hosts.{HostsContent, address_data, question, static_lookup}
use Rattle.stub_cache.specs.Ttl.{TtlConfigContent}
use Rattle.stub_client.specs.AnswerTypes.{CacheHasAskedTypes, HasAskedTypes, ReplyHasAskedTypes}
use Rattle.stub_client.specs.Handle.{Ask, Behavior, Led}
use Rattle.stub_client.specs.Laws.{HasNoMinimum, HoldsOfCache, HoldsOfReply, RecordClaim}
use Rattle.stub_client.specs.Looks.{Reply}
use Rattle.stub_client.specs.Origins.{Asked, IsPartOf, asked_at}
use Rattle.stub_client.specs.SpecialNames.{special_answer}
use Rattle.stub_client.specs.Step.{meaning}
use Rattle.stub_client.specs.declared.special_names.SpecialAnswer.TheVariants.{Ordinary}
use Rattle.stub_core.specs.Attempts.{Lookups}
use Rattle.stub_core.specs.Resolver.{is_tried_as_name, known_type, literal, names_for, owner_of, request_options}
use Rattle.stub_core.specs.Strategies.{fallback_record, kinds_of}
use Rattle.stub_core.specs.declared.resolver.Resolver.{Resolver}
use Rattle.stub_core.specs.declared.resolver.settings.Settings.{Settings}

-- ---- premises

-- the least TTL of positive answers is 0 for every type
abbrev pub HasNoMinima : TtlConfigContent → Type 0
HasNoMinima config = (kind : RecordType) → HasNoMinimum config kind

-- each response of a history has only answers of the type that was asked for, and aliases
abbrev pub AreTyped : List Asked → Type 0
AreTyped history =
    All (λ asked. (response : DnsResponse) → meaning asked.ask.outcome ≡ Ok response
    → HasAskedTypes asked.ask.question response.message) history

-- ---- caches and replies

-- The records in a cache have an origin in a history, and the types that were asked for if the responses of the history have.
pub record CacheIsFrom (Brought : List Asked → RecordClaim) (history : List Asked) (now : ℕ) (cache : CacheContent)
    : Type 0 where
  pub brought : HoldsOfCache (Brought history) now cache
  pub typed : AreTyped history → CacheHasAskedTypes cache

-- the same of the records of a reply to a question
pub record ReplyIsFrom (Brought : List Asked → RecordClaim) (history : List Asked) (now : ℕ) (q : Query) (reply : Reply)
    : Type 0 where
  pub brought : HoldsOfReply (Brought history) q now reply
  pub typed : AreTyped history → ReplyHasAskedTypes q reply

-- lookups without cache and handle, in which each reply has records with an origin in a history
abbrev pub ByOrigins : (List Asked → RecordClaim) → ℕ → List Asked → Lookups (Unit {0}) Query
ByOrigins Brought now history old q reply new = ReplyIsFrom Brought history now q reply

-- ---- answers

-- An answer of a lookup for some names and types has one of the types and an origin for its question; or it is a record of the
-- hosts for one of their names and one of the types; or it is a record of the literal address that was looked up.
pub data IsAnswer (Claim : RecordClaim) (hosts : HostsContent) (now : ℕ) (kinds : List RecordType)
    (names hosted : List DomainName) (literals : List Record) : Record → Type 0 where
  from_question : (name : DomainName) (kind : RecordType) (r : Record) → Contains names name → Contains kinds kind
      → has_type kind r ≡ true → Claim (question name kind) now r → IsAnswer Claim hosts now kinds names hosted literals r
  from_hosts : (name : DomainName) (kind : RecordType) (lookup : LookupContent) (r : Record) → Contains hosted name
      → Contains kinds kind → static_lookup hosts (question name kind) now ≡ Some lookup → Contains lookup.message.answers r
      → IsAnswer Claim hosts now kinds names hosted literals r
  from_literal : (r : Record) → Contains literals r → IsAnswer Claim hosts now kinds names hosted literals r

-- a fact of each answer of a reply
abbrev pub EachAnswer : (Record → Type 0) → Reply → Type 0
EachAnswer Holds (Ok lookup) = All Holds lookup.message.answers
EachAnswer Holds (Err error) = Unit {0}

-- the names that a lookup attempts; a text that is not a name has none
abbrev pub names_of : Settings → Result DomainName ParseError → List DomainName
names_of settings (Ok name) = names_for settings name
names_of settings (Err error) = []

-- the first of some names, which is the only one that the hosts are asked for by a lookup of records
abbrev pub first_of : List DomainName → List DomainName
first_of [] = []
first_of (name ∷ names) = name ∷ []

-- The record that is returned for a literal address: the answer to its own lookup, or, if the text is also looked up as a name, the
-- record that is returned where no name has an address.
abbrev pub literal_records : Bool → Option IpAddr → Result DomainName ParseError → ℕ → List Record
literal_records tried None name now = []
literal_records false (Some address) name now = (literal (owner_of name) address now).message.answers
literal_records true (Some address) name now = fallback_record (address_data address) ∷ []

-- whether a record has an address
abbrev pub is_address_record : Record → Bool
is_address_record r = has_type types.A r || has_type types.AAAA r

-- each answer of the type that was asked for comes from a question for an attempted name, or from the hosts
abbrev pub NameIsFrom : RecordClaim → Settings → ℕ → Result DomainName ParseError → RecordType → Reply → Type 0
NameIsFrom Claim settings now name kind reply =
    EachAnswer (λ r. has_type (known_type kind) r ≡ true
    → IsAnswer Claim settings.hosts now (known_type kind ∷ []) (names_of settings name) (first_of (names_of settings name))
    [] r) reply

-- Each answer with an address comes from a question for an attempted name, or from the hosts, by a type that the strategy asks for,
-- or is the record of a literal address.
abbrev pub HostIsFrom : RecordClaim → Settings → ℕ → Option IpAddr → Result DomainName ParseError → Reply → Type 0
HostIsFrom Claim settings now address name reply =
    EachAnswer (λ r. is_address_record r ≡ true
    → IsAnswer Claim settings.hosts now (kinds_of settings.options.ip_strategy) (names_of settings name) (names_of settings name)
    (literal_records (is_tried_as_name settings name) address name now) r) reply

-- ---- lookups of a resolver

-- A lookup of a resolver asks these questions with these outcomes, none of them for a special-use name. In any history that has
-- them and brought what the cache has, the answers have an origin, and so has what the cache has afterwards.
pub record ComesFrom {H : Type 0} (Brought : List Asked → RecordClaim) (gives : Behavior H) (now : ℕ) (old new : Resolver H)
    (Answers : List Asked → Type 0) : Type 0 where
  pub asks : List Ask
  pub led : Led gives (request_options old.settings.options) now old.client.handle asks new.client.handle
  pub ordinary : All (λ ask. special_answer ask.question ≡ Ordinary) asks
  pub aliases : new.client.preserve_intermediates ≡ old.client.preserve_intermediates
  pub config : new.client.cache.config ≡ old.client.cache.config
  pub comes : (history : List Asked) → IsPartOf (asked_at now asks) history → CacheIsFrom Brought history now old.client.cache
      → CacheIsFrom Brought history now new.client.cache × Answers history
