-- Lookups of a resolver: of a name, or of a host. What is removed from its cache.
use Rattle.std.specs.Prelude.{◌≡◌, ◌+◌, ◌*◌, ◌⊎◌, nat_lt, true, false, List, [], ◌∷◌, length, ℕ, Bool, Option, Some, None, Result, Ok, Err}
use Rattle.std.specs.declared.net.ip_addr.IpAddr.{IpAddr}
use Rattle.dns_wire.specs.codes.RecordType.{type_number, type_of}
use Rattle.dns_wire.specs.declared.codes.record_type.RecordType.{RecordType}
use Rattle.dns_names.specs.Name.{DomainName}
use Rattle.dns_names.specs.declared.error.ParseError.{ParseError}
use Rattle.dns_data.specs.declared.rdata.RData.{RData}
use Rattle.dns_messages.specs.declared.query.Query.{Query}
use Rattle.stub_config.specs.declared.options.ResolverOpts.{ResolverOpts}
use Rattle.stub_config.specs.declared.request_options.DnsRequestOptions.{DnsRequestOptions}
use Rattle.stub_lookup.specs.Error.{error_of_name}
use Rattle.stub_lookup.specs.Lookup.{LookupContent, lookup_of, max_ttl, record_for}
use Rattle.stub_cache.specs.Cache.{cleared_of}
use Rattle.stub_hosts.specs.Hosts.{address_data, address_type, question}
use Rattle.stub_cache.specs.declared.cache.entry.Entry.{Entry}
use Rattle.stub_core.specs.AttemptedNames.{attempted_names}
use Rattle.stub_core.specs.Attempts.{AttemptsWithHosts, Lookups, UnlessMemory}
use Rattle.stub_client.specs.Handle.{Behavior}
use Rattle.stub_client.specs.Looks.{Answers, Reply, out_of_memory}
use Rattle.stub_core.specs.Strategies.{LooksUpIp}
use Rattle.stub_client.specs.declared.caching_client.CachingClient.{CachingClient}
use Rattle.stub_core.specs.declared.resolver.Resolver.{Resolver}
use Rattle.stub_core.specs.declared.resolver.settings.Settings.{Settings}

-- the options of a resolver's requests
abbrev pub request_options : ResolverOpts → DnsRequestOptions
request_options options = record {
  use_edns = options.edns0;
  edns_payload_len = options.edns_payload_len;
  edns_set_dnssec_ok = false;
  recursion_desired = options.recursion_desired;
}

-- the names that a lookup of a name attempts
abbrev pub names_for : Settings → DomainName → List DomainName
names_for settings name = attempted_names settings.options.ndots settings.config.domain settings.config.search name

-- The maximum number of questions that a lookup asks: eight for each of two types of addresses, for the name itself, and for the
-- name completed with the domain and with each name of the search list.
abbrev pub max_questions : Settings → ℕ
max_questions settings = (length settings.config.search + 2) * 16

-- a type by its number
abbrev pub known_type : RecordType → RecordType
known_type kind = type_of (type_number kind)

-- ---- lookups of names

-- records of a type for a name, or the error of a text that is not a name
abbrev pub AnswersName : {S : Type 0} → Settings → ℕ → Lookups S Query → Result DomainName ParseError → RecordType
    → S → Reply → S → Type 0
AnswersName settings now asks (Err error) kind old reply new = (reply ≡ Err (error_of_name error)) × (new ≡ old)
AnswersName settings now asks (Ok name) kind old reply new =
    AttemptsWithHosts settings.hosts now asks kind old (names_for settings name) reply new

-- A lookup of records. The type is taken by its number.
abbrev pub LooksUp : {S : Type 0} → Settings → ℕ → Lookups S Query → Result DomainName ParseError → RecordType
    → S → Reply → S → Type 0
LooksUp settings now asks name kind old reply new =
    UnlessMemory (AnswersName settings now asks name (known_type kind) old reply new) old reply new

-- ---- lookups of hosts

-- a literal address, at the text as a name, or at the empty name
abbrev pub owner_of : Result DomainName ParseError → DomainName
owner_of (Ok name) = name
owner_of (Err error) = record { is_fqdn = false; labels = [] }

-- the lookup of a literal address: one record at the owner, for a day
abbrev pub literal : DomainName → IpAddr → ℕ → LookupContent
literal owner address now =
    let asked = question owner (address_type address) in
    lookup_of asked (record_for asked (address_data address) ∷ []) (now + max_ttl)

-- what is returned for a text that is not a name: a literal address at the empty name, or the error
abbrev pub without_name : ParseError → Option IpAddr → ℕ → Reply
without_name error None now = Err (error_of_name error)
without_name error (Some address) now = Ok (literal (owner_of (Err error)) address now)

-- whether a literal address that is a name is looked up as one: `ndots` is above 4
abbrev pub tries_literals : Settings → Bool
tries_literals settings = nat_lt 4 settings.options.ndots

-- whether a literal address is only returned where no name had one
abbrev pub is_tried_as_name : Settings → Result DomainName ParseError → Bool
is_tried_as_name settings (Ok name) = tries_literals settings
is_tried_as_name settings (Err error) = false

-- a lookup of the addresses of a name, with an address that is returned where there are none
abbrev pub LooksUpName : {S : Type 0} → Settings → ℕ → Lookups S Query → Option RData → Result DomainName ParseError
    → S → Reply → S → Type 0
LooksUpName settings now asks finally (Err error) old reply new = (reply ≡ Err (error_of_name error)) × (new ≡ old)
LooksUpName settings now asks finally (Ok name) old reply new =
    LooksUpIp settings.options.ip_strategy settings.hosts now asks finally old (names_for settings name) reply new

-- a literal address that is returned at once, or a lookup
abbrev pub AnswersHost : {S : Type 0} → Settings → ℕ → Lookups S Query → Bool → Option IpAddr → Result DomainName ParseError
    → S → Reply → S → Type 0
AnswersHost settings now asks tried None name old reply new = LooksUpName settings now asks None name old reply new
AnswersHost settings now asks false (Some address) name old reply new =
    (reply ≡ Ok (literal (owner_of name) address now)) × (new ≡ old)
AnswersHost settings now asks true (Some address) name old reply new =
    LooksUpName settings now asks (Some (address_data address)) name old reply new

-- A lookup of a host: a literal address, or a name.
abbrev pub LooksUpHost : {S : Type 0} → Settings → ℕ → Lookups S Query → Option IpAddr → Result DomainName ParseError
    → S → Reply → S → Type 0
LooksUpHost settings now asks address name old reply new =
    UnlessMemory (AnswersHost settings now asks (is_tried_as_name settings name) address name old reply new) old reply new

-- ---- lookups of a resolver: its settings stay

-- what its client is asked
abbrev pub asks_of : {H : Type 0} → Behavior H → ℕ → Resolver H → CachingClient H → Query → Reply → CachingClient H → Type 0
asks_of gives now resolver old q reply new = Answers gives (request_options resolver.settings.options) now old q reply new

-- a lookup of records of a type for a name
pub record ResolvesName {H : Type 0} (gives : Behavior H) (now : ℕ) (name : Result DomainName ParseError) (kind : RecordType)
    (old : Resolver H) (reply : Reply) (new : Resolver H) : Type 0 where
  pub lookup : LooksUp old.settings now (asks_of gives now old) name kind old.client reply new.client
  pub settings : new.settings ≡ old.settings

-- a lookup of the addresses of a host, of which `is_ip` says which address it spells
pub record ResolvesHost {H : Type 0} (gives : Behavior H) (now : ℕ) (is_ip : Option IpAddr → Type 0)
    (name : Result DomainName ParseError) (old : Resolver H) (reply : Reply) (new : Resolver H) : Type 0 where
  pub address : Option IpAddr
  pub is_address : is_ip address
  pub lookup : LooksUpHost old.settings now (asks_of gives now old) address name old.client reply new.client
  pub settings : new.settings ≡ old.settings

-- a resolver with another handle
abbrev pub with_handle : {H : Type 0} → Resolver H → H → Resolver H
with_handle resolver handle = record resolver { client = record resolver.client { handle = handle } }

-- ---- the cache

-- the entries without those for the questions for some names
abbrev pub cleared_names : RecordType → List DomainName → List Entry → List Entry
cleared_names kind [] entries = entries
cleared_names kind (name ∷ names) entries = cleared_names kind names (cleared_of (question name kind) entries)

-- the entries without those for the questions of a lookup, of which a text that is not a name has none
abbrev pub cleared_lookup : Settings → Result DomainName ParseError → RecordType → List Entry → List Entry
cleared_lookup settings (Err error) kind entries = entries
cleared_lookup settings (Ok name) kind entries = cleared_names kind (names_for settings name) entries

-- a client with other entries in its cache
abbrev pub with_entries : {H : Type 0} → CachingClient H → List Entry → CachingClient H
with_entries client entries = record client { cache = record client.cache { entries = entries } }
