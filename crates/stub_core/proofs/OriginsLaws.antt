-- Where the records that a resolver returns and keeps come from.
use Rattle.std.proofs.Common.{◌≡◌, ◌≤◌, ◌++◌, Bool, true, false, ℕ, List, [], ◌∷◌, Option, Result, Ok, Err, All, Contains, refl, sym, subst, ◌∙◌, slice_index_or}
use Rattle.std.specs.Prelude.{not}
use Rattle.std.specs.declared.net.ip_addr.IpAddr.{IpAddr}
use Rattle.std.proofs.lemmas.List.{map-append}
use Rattle.std.proofs.lemmas.List.Elements.{All-append, All-contains, All-contains_itself, All-filter, All-nil, All-weaker, Contains-append_left, Contains-append_right}
use Rattle.dns_wire.specs.codes.RecordType.{type_number, type_of}
use Rattle.dns_wire.specs.declared.codes.record_type.RecordType.{RecordType}
use Rattle.dns_wire.specs.declared.codes.record_type.RecordType.TheVariants as types
use Rattle.dns_names.specs.Name.{DomainName}
use Rattle.dns_names.specs.declared.error.ParseError.{ParseError}
use Rattle.dns_records.specs.Record.{Record}
use Rattle.dns_messages.specs.Response.{has_type}
use Rattle.dns_messages.specs.declared.message.Message.{Message}
use Rattle.dns_messages.specs.declared.query.Query.{Query}
use Rattle.dns_messages.specs.declared.response.DnsResponse.{DnsResponse}
use Rattle.stub_config.specs.declared.request_options.DnsRequestOptions.{DnsRequestOptions}
use Rattle.stub_cache.specs.Cache.{CacheContent, is_about}
use Rattle.stub_hosts.specs.Hosts.{question}
use Rattle.stub_cache.specs.Ttl.{TtlConfigContent}
use Rattle.stub_cache.specs.declared.cache.entry.Entry.{Entry}
use Rattle.stub_client.specs.AnswerTypes.{HasAskedTypes, KeptHasAskedTypes}
use Rattle.stub_client.specs.Handle.{Ask, Behavior, Led}
use Rattle.stub_client.specs.Laws.{EachReply, HasNoMinimum, HoldsOfCache, HoldsOfEntry, HoldsOfReply, RecordClaim}
use Rattle.stub_client.specs.Looks.{Answers, Looks, Reply, lookup_settings}
use Rattle.stub_client.specs.Origins.{Asked, Comes, IsBrought, IsBroughtClosely, IsPartOf, asked_at}
use Rattle.stub_client.specs.SpecialNames.{special_answer}
use Rattle.stub_client.specs.Step.{meaning}
use Rattle.stub_client.specs.declared.special_names.SpecialAnswer.TheVariants.{Ordinary}
use Rattle.stub_client.specs.declared.caching_client.CachingClient.{CachingClient}
use Rattle.stub_client.proofs.AnswerTypesLaws.{lookup-fits}
use Rattle.stub_client.proofs.OriginsLaws.{are-asked, brought, brought-closely, cache-still}
use Rattle.stub_client.proofs.PassingLaws.{settings-stay}
use Rattle.stub_core.specs.Attempts.{Lookups}
use Rattle.stub_core.specs.Origins.{AreTyped, ByOrigins, CacheIsFrom, ComesFrom, HasNoMinima, HostIsFrom, NameIsFrom}
use Rattle.stub_core.specs.Resolver.{LooksUp, LooksUpHost, asks_of, cleared_lookup, cleared_names, names_for, request_options}
use Rattle.stub_core.specs.declared.resolver.Resolver.{Resolver}
use Rattle.stub_core.specs.declared.resolver.settings.Settings.{Settings}
use Rattle.stub_core.proofs.OrdinaryLaws.{ordinary-asks}
use Rattle.stub_core.proofs.AnswerOriginsLaws.{host-is-from, name-is-from}
use Rattle.stub_core.proofs.StatelessLaws.{EachExplained, Explained, looks_up-by, looks_up_host-by}

-- ---- histories

part-left : (now : ℕ) (asks more : List Ask) (all : List Asked) → IsPartOf (asked_at now (asks ++ more)) all → IsPartOf (asked_at now asks) all
part-left now asks more all part = λ asked there. part asked
    (subst (λ (xs : List Asked). Contains xs asked) (sym (map-append (λ (ask : Ask). record { moment = now; ask = ask }) asks more))
    (Contains-append_left (asked_at now asks) (asked_at now more) asked there))

part-right : (now : ℕ) (asks more : List Ask) (all : List Asked) → IsPartOf (asked_at now (asks ++ more)) all → IsPartOf (asked_at now more) all
part-right now asks more all part = λ asked there. part asked
    (subst (λ (xs : List Asked). Contains xs asked) (sym (map-append (λ (ask : Ask). record { moment = now; ask = ask }) asks more))
    (Contains-append_right (asked_at now asks) (asked_at now more) asked there))

abbrev IsTyped : Asked → Type 0
IsTyped asked = (response : DnsResponse) → meaning asked.ask.outcome ≡ Ok response → HasAskedTypes asked.ask.question response.message

each-typed : (now : ℕ) (asks : List Ask) (all : List Asked) → IsPartOf (asked_at now asks) all → AreTyped all → EachReply HasAskedTypes asks
each-typed now asks all part typed = λ k d less.
    All-contains IsTyped all (record { moment = now; ask = slice_index_or asks k d }) typed (are-asked all now asks part k d less)

typed-part : (history all : List Asked) → IsPartOf history all → AreTyped all → AreTyped history
typed-part history all part typed =
    All-weaker (Contains history) IsTyped (λ asked there. All-contains IsTyped all asked typed (part asked there)) history
    (All-contains_itself history)

-- ---- questions

-- What every lookup of a client does: with what the cache has, a history that has its questions brings what is kept and returned.
abbrev pub Brings : TtlConfigContent → Bool → (List Asked → RecordClaim) → Type 0
Brings config aliases Brought =
    (history : List Asked) (options : DnsRequestOptions) (now : ℕ) (old : CacheContent) (q : Query) (asks : List Ask) (reply : Reply)
    (new : CacheContent)
    → Looks (record { preserve_intermediates = aliases; dnssec_ok = options.edns_set_dnssec_ok }) now 0 [] old q asks reply new
    → old.config ≡ config → IsPartOf (asked_at now asks) history → HoldsOfCache (Brought history) now old
    → HoldsOfCache (Brought history) now new × HoldsOfReply (Brought history) q now reply

module _ {H : Type 0} (gives : Behavior H) (options : DnsRequestOptions) (now : ℕ) (config : TtlConfigContent) (aliases : Bool)
    (Brought : List Asked → RecordClaim) (brings : Brings config aliases Brought)
    (round : (number : ℕ) → type_number (type_of number) ≡ number) where
  -- these asks lead a client from one state to another
  abbrev Path : CachingClient H → List Ask → CachingClient H → Type 0
  Path old asks new =
      Led gives options now old.handle asks new.handle
      × (new.preserve_intermediates ≡ old.preserve_intermediates)
      × (new.cache.config ≡ old.cache.config)
      × All (λ ask. special_answer ask.question ≡ Ordinary) asks

  -- a history has the asks
  abbrev Fits : List Ask → List Asked → Type 0
  Fits asks all = IsPartOf (asked_at now asks) all

  -- a history brought what a client has
  abbrev Good : List Asked → CachingClient H → Type 0
  Good all client =
      (client.preserve_intermediates ≡ aliases) × (client.cache.config ≡ config) × CacheIsFrom Brought all now client.cache

  path-none : (client : CachingClient H) → Path client [] client
  path-none client = (refl, refl, refl, All-nil (λ ask. special_answer ask.question ≡ Ordinary))

  led-both : (old mid new : H) (asks more : List Ask) → Led gives options now old asks mid → Led gives options now mid more new
      → Led gives options now old (asks ++ more) new
  led-both old mid new [] more h k = subst (λ (s : H). Led gives options now s more new) h k
  led-both old mid new (ask ∷ asks) more h k = (h.0, h.1, led-both h.0 mid new asks more h.2 k)

  path-both : (old mid new : CachingClient H) (asks more : List Ask) → Path old asks mid → Path mid more new
      → Path old (asks ++ more) new
  path-both old mid new asks more h k = (
    led-both old.handle mid.handle new.handle asks more h.0 k.0,
    k.1 ∙ h.1,
    k.2 ∙ h.2,
    All-append (λ ask. special_answer ask.question ≡ Ordinary) asks more h.3 k.3,
  )

  abbrev AsksClient : Lookups (CachingClient H) Query
  AsksClient old q reply new = Answers gives options now old q reply new

  question-by : EachExplained {All = List Asked} Path Fits Good path-none path-both (part-left now) (part-right now) AsksClient
      (λ all. ByOrigins Brought now all)
  question-by old new q reply h =
      let bounds = settings-stay (lookup_settings old options) now 0 [] old.cache q h.asks reply new.cache h.looks in (
        h.asks,
        (h.led, h.settings, bounds.1, ordinary-asks (lookup_settings old options) now 0 [] old.cache q h.asks reply new.cache h.looks),
        λ all fits good.
            let looks : Looks (record { preserve_intermediates = aliases; dnssec_ok = options.edns_set_dnssec_ok }) now 0 []
            old.cache q h.asks reply new.cache =
            subst (λ (b : Bool). Looks (record { preserve_intermediates = b; dnssec_ok = options.edns_set_dnssec_ok }) now 0 []
            old.cache q h.asks reply new.cache) good.0 h.looks in
            let kept = brings all options now old.cache q h.asks reply new.cache looks good.1 fits good.2.brought in
            let fit = λ (typed : AreTyped all).
            lookup-fits round (lookup_settings old options) now 0 [] old.cache q h.asks reply new.cache
            (All-nil (λ r. has_type types.CNAME r ≡ true)) (good.2.typed typed) (each-typed now h.asks all fits typed) h.looks in (
              (h.settings ∙ good.0, bounds.1 ∙ good.1, record { brought = kept.0; typed = λ typed. (fit typed).0 }),
              record { brought = kept.1; typed = λ typed. (fit typed).1 },
            ),
      )

-- ---- lookups of a resolver

module _ {H : Type 0} (gives : Behavior H) (now : ℕ) (old new : Resolver H) (Brought : List Asked → RecordClaim)
    (brings : Brings old.client.cache.config old.client.preserve_intermediates Brought)
    (round : (number : ℕ) → type_number (type_of number) ≡ number) where
  abbrev options : DnsRequestOptions
  options = request_options old.settings.options

  abbrev P : CachingClient H → List Ask → CachingClient H → Type 0
  P = Path gives options now old.client.cache.config old.client.preserve_intermediates Brought brings round

  abbrev F : List Ask → List Asked → Type 0
  F = Fits gives options now old.client.cache.config old.client.preserve_intermediates Brought brings round

  abbrev G : List Asked → CachingClient H → Type 0
  G = Good gives options now old.client.cache.config old.client.preserve_intermediates Brought brings round

  abbrev none : (client : CachingClient H) → P client [] client
  none = path-none gives options now old.client.cache.config old.client.preserve_intermediates Brought brings round

  abbrev both : (s t u : CachingClient H) (asks more : List Ask) → P s asks t → P t more u → P s (asks ++ more) u
  both = path-both gives options now old.client.cache.config old.client.preserve_intermediates Brought brings round

  explained : (Answered : List Asked → Type 0) (leads : Lookups (Unit {0}) Query → Type 0)
      → ((history : List Asked) → leads (ByOrigins Brought now history) → Answered history)
      → Explained P F G none both (part-left now) (part-right now) old.client new.client (λ all. leads (ByOrigins Brought now all))
      → ComesFrom Brought gives now old new Answered
  explained Answered leads f h = record {
    asks = h.0;
    led = h.1.0;
    ordinary = h.1.3;
    aliases = h.1.1;
    config = h.1.2;
    comes = λ history part holds.
        let whole = h.2 history part (refl, refl, holds) in
        (whole.0.2, f history whole.1);
  }

  pub name-comes : (name : Result DomainName ParseError) (kind : RecordType) (reply : Reply)
      → LooksUp old.settings now (asks_of gives now old) name kind old.client reply new.client
      → ComesFrom Brought gives now old new (λ history. NameIsFrom (Brought history) old.settings now name kind reply)
  name-comes name kind reply h =
      explained (λ history. NameIsFrom (Brought history) old.settings now name kind reply)
      (λ asks. LooksUp old.settings now asks name kind tt reply tt)
      (λ history looks. name-is-from Brought history now old.settings name kind tt tt reply looks)
      (looks_up-by P F G none both (part-left now) (part-right now) now (asks_of gives now old) (λ all. ByOrigins Brought now all)
      (question-by gives options now old.client.cache.config old.client.preserve_intermediates Brought brings round)
      old.settings name kind old.client new.client reply h)

  pub host-comes : (address : Option IpAddr) (name : Result DomainName ParseError) (reply : Reply)
      → LooksUpHost old.settings now (asks_of gives now old) address name old.client reply new.client
      → ComesFrom Brought gives now old new
      (λ history. AreTyped history → HostIsFrom (Brought history) old.settings now address name reply)
  host-comes address name reply h =
      explained (λ history. AreTyped history → HostIsFrom (Brought history) old.settings now address name reply)
      (λ asks. LooksUpHost old.settings now asks address name tt reply tt)
      (λ history looks typed. host-is-from Brought history typed now old.settings address name tt tt reply looks)
      (looks_up_host-by P F G none both (part-left now) (part-right now) now (asks_of gives now old)
      (λ all. ByOrigins Brought now all)
      (question-by gives options now old.client.cache.config old.client.preserve_intermediates Brought brings round)
      old.settings address name old.client new.client reply h)

-- ---- the origins of the client

pub brings-all : (config : TtlConfigContent) (aliases : Bool) → HasNoMinima config → Brings config aliases (IsBrought config)
brings-all config aliases none = λ history options now old q asks reply new looks same part holds.
    subst (λ (c : TtlConfigContent). HoldsOfCache (IsBrought c history) now old
    → HoldsOfCache (IsBrought c history) now new × HoldsOfReply (IsBrought c history) q now reply) same
    (brought history (record { preserve_intermediates = aliases; dnssec_ok = options.edns_set_dnssec_ok }) now old q asks reply new looks
    (subst (λ (c : TtlConfigContent). HasNoMinimum c q.query_type) (sym same) (none q.query_type)) part) holds

pub brings-closely : (config : TtlConfigContent) (aliases : Bool) → aliases ≡ false → HasNoMinima config
    → Brings config aliases (IsBroughtClosely config)
brings-closely config aliases off none = λ history options now old q asks reply new looks same part holds.
    subst (λ (c : TtlConfigContent). HoldsOfCache (IsBroughtClosely c history) now old
    → HoldsOfCache (IsBroughtClosely c history) now new × HoldsOfReply (IsBroughtClosely c history) q now reply) same
    (brought-closely history (record { preserve_intermediates = aliases; dnssec_ok = options.edns_set_dnssec_ok }) now old q asks reply
    new looks (subst (λ (c : TtlConfigContent). HasNoMinimum c q.query_type) (sym same) (none q.query_type)) part off) holds

-- ---- between lookups

pub from-still : (Carries : Query → Message → Record → Type 0) (Leads : Query → Message → Type 0) (history all : List Asked)
    (now later : ℕ) (cache : CacheContent) → IsPartOf history all → now ≤ later → CacheIsFrom (Comes Carries Leads) history now cache
    → CacheIsFrom (Comes Carries Leads) all later cache
from-still Carries Leads history all now later cache part after h = record {
  brought = cache-still Carries Leads history all now later cache part after h.brought;
  typed = λ typed. h.typed (typed-part history all part typed);
}

module _ (F : Entry → Type 0) where
  all-cleared : (kind : RecordType) (names : List DomainName) (entries : List Entry) → All F entries
      → All F (cleared_names kind names entries)
  all-cleared kind [] entries h = h
  all-cleared kind (name ∷ names) entries h =
      all-cleared kind names _ (All-filter (λ e. not (is_about (question name kind) e)) F entries h)

  all-cleared_lookup : (settings : Settings) (name : Result DomainName ParseError) (kind : RecordType) (entries : List Entry)
      → All F entries → All F (cleared_lookup settings name kind entries)
  all-cleared_lookup settings (Ok name) kind entries h = all-cleared kind (names_for settings name) entries h
  all-cleared_lookup settings (Err error) kind entries h = h

pub from-cleared : (Brought : List Asked → RecordClaim) (history : List Asked) (now : ℕ) (cache : CacheContent) (settings : Settings)
    (name : Result DomainName ParseError) (kind : RecordType) → CacheIsFrom Brought history now cache
    → CacheIsFrom Brought history now (record cache { entries = cleared_lookup settings name kind cache.entries })
from-cleared Brought history now cache settings name kind h = record {
  brought = all-cleared_lookup (HoldsOfEntry (Brought history) now) settings name kind cache.entries h.brought;
  typed = λ typed. all-cleared_lookup (λ e. KeptHasAskedTypes e.question e.kept) settings name kind cache.entries (h.typed typed);
}

pub from-empty : (Brought : List Asked → RecordClaim) (history : List Asked) (now : ℕ) (cache : CacheContent)
    → CacheIsFrom Brought history now (record cache { entries = [] })
from-empty Brought history now cache = record {
  brought = All-nil (HoldsOfEntry (Brought history) now);
  typed = λ typed. All-nil (λ e. KeptHasAskedTypes e.question e.kept);
}
