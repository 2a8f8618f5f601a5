-- Lookups of a resolver keep claims about whole answers: they are lookups without states in which the claims hold of each reply.
use Rattle.std.proofs.Common.{◌≡◌, ◌≤◌, ◌++◌, Bool, true, ℕ, List, [], ◌∷◌, Option, Result, Ok, All, refl, sym, subst, ◌∙◌}
use Rattle.std.specs.declared.net.ip_addr.IpAddr.{IpAddr}
use Rattle.std.proofs.lemmas.List.Elements.{All-cons, All-head, All-nil, All-tail}
use Rattle.dns_wire.specs.codes.RecordType.{type_number, type_of}
use Rattle.dns_wire.specs.declared.codes.record_type.RecordType.{RecordType}
use Rattle.dns_wire.specs.declared.codes.record_type.RecordType.TheVariants as types
use Rattle.dns_names.specs.Name.{DomainName}
use Rattle.dns_names.specs.declared.error.ParseError.{ParseError}
use Rattle.dns_records.specs.Record.{Record}
use Rattle.dns_messages.specs.Response.{has_type}
use Rattle.dns_messages.specs.declared.query.Query.{Query}
use Rattle.dns_messages.specs.declared.response.DnsResponse.{DnsResponse}
use Rattle.stub_config.specs.declared.request_options.DnsRequestOptions.{DnsRequestOptions}
use Rattle.stub_lookup.specs.declared.error.NetError.{NetError}
use Rattle.stub_lookup.specs.declared.error.NoRecords.{NoRecords}
use Rattle.stub_cache.specs.Cache.{CacheContent}
use Rattle.stub_cache.specs.Ttl.{TtlConfigContent}
use Rattle.stub_cache.specs.declared.cache.entry.Entry.{Entry}
use Rattle.stub_client.specs.AnswerTypes.{HasAskedTypes, KeptHasAskedTypes}
use Rattle.stub_client.specs.Handle.{Ask, Behavior, Led}
use Rattle.stub_client.specs.Looks.{Answers, Looks, Reply, lookup_settings}
use Rattle.stub_client.specs.Step.{meaning}
use Rattle.stub_client.specs.declared.caching_client.CachingClient.{CachingClient}
use Rattle.stub_client.specs.declared.caching_client.step.LookupSettings.{LookupSettings}
use Rattle.stub_client.proofs.AnswerTypesLaws.{lookup-fits}
use Rattle.stub_client.proofs.PassingLaws.{settings-stay}
use Rattle.stub_core.specs.Attempts.{Lookups}
use Rattle.stub_core.specs.Resolver.{LooksUp, LooksUpHost, asks_of, cleared_lookup, request_options}
use Rattle.stub_core.specs.declared.resolver.Resolver.{Resolver}
use Rattle.stub_core.specs.declared.resolver.settings.Settings.{Settings}
use Rattle.stub_core.proofs.ResolvesLaws.{all-cleared_lookup}
use Rattle.stub_core.proofs.StatelessLaws.{EachExplained, Explained, looks_up-by, looks_up_host-by}
use Rattle.stub_laws.specs.answers.Claims.{AbsencesOutlast, AnswersOutlast, AreKeptAliases, BearOut, HoldOfEntry, HoldOfSpecialNames}
use Rattle.stub_laws.specs.answers.Lookups.{ByClaims, IsHeldCache, KeepsClaims}
use Rattle.stub_laws.proofs.ClaimLaws.{HasNoLeast, hold-later, lookup-keeps}

-- ---- lists

all-front : {X : Type 0} (P : X → Type 0) (xs ys : List X) → All P (xs ++ ys) → All P xs
all-front P [] ys h = All-nil P
all-front P (x ∷ xs) ys h = All-cons P x xs (All-head P x (xs ++ ys) h) (all-front P xs ys (All-tail P x (xs ++ ys) h))

all-back : {X : Type 0} (P : X → Type 0) (xs ys : List X) → All P (xs ++ ys) → All P ys
all-back P [] ys h = h
all-back P (x ∷ xs) ys h = all-back P xs ys (All-tail P x (xs ++ ys) h)

-- no aliases are kept at first
pub none-kept : (settings : LookupSettings) (q : Query) → AreKeptAliases settings q []
none-kept settings q =
    record { aliases = All-nil (λ r. has_type types.CNAME r ≡ true); of_aliases = λ e. refl; left_out = λ e. refl }

module _ {H : Type 0} (gives : Behavior H) (options : DnsRequestOptions) (now : ℕ) (config : TtlConfigContent) (aliases : Bool)
    (low short : Type 0) (longest : Query → ℕ) (finds : Query → ℕ → List Record → Type 0) (misses lacks : Query → ℕ → NoRecords → Type 0)
    (fails : List Ask → Query → ℕ → NetError → Type 0) (deep : ℕ → Query → Type 0)
    (answers : AnswersOutlast low finds) (absences : AbsencesOutlast short longest misses lacks) (special : HoldOfSpecialNames finds lacks)
    (start : (q : Query) → deep 0 q) (none : HasNoLeast low short longest config)
    (round : (number : ℕ) → type_number (type_of number) ≡ number) where
  abbrev told : LookupSettings
  told = record { preserve_intermediates = aliases; dnssec_ok = options.edns_set_dnssec_ok }

  -- these asks lead a client from one state to another
  abbrev Path : CachingClient H → List Ask → CachingClient H → Type 0
  Path old asks new =
      Led gives options now old.handle asks new.handle
      × (new.preserve_intermediates ≡ old.preserve_intermediates)
      × (new.cache.config ≡ old.cache.config)

  -- the asks bear the claims out
  abbrev IsTyped : Ask → Type 0
  IsTyped ask = (response : DnsResponse) → meaning ask.outcome ≡ Ok response → HasAskedTypes ask.question response.message

  abbrev Fits : List Ask → List Ask → Type 0
  Fits asks all = All (BearOut finds misses lacks (fails all) deep told config now) asks × All IsTyped asks

  -- the claims hold of what a client has
  abbrev Good : List Ask → CachingClient H → Type 0
  Good all client =
      (client.preserve_intermediates ≡ aliases) × (client.cache.config ≡ config) × IsHeldCache low short longest finds misses now client.cache

  path-none : (client : CachingClient H) → Path client [] client
  path-none client = (refl, refl, refl)

  led-both : (old mid new : H) (asks more : List Ask) → Led gives options now old asks mid → Led gives options now mid more new
      → Led gives options now old (asks ++ more) new
  led-both old mid new [] more h k = subst (λ (s : H). Led gives options now s more new) h k
  led-both old mid new (ask ∷ asks) more h k = (h.0, h.1, led-both h.0 mid new asks more h.2 k)

  path-both : (old mid new : CachingClient H) (asks more : List Ask) → Path old asks mid → Path mid more new → Path old (asks ++ more) new
  path-both old mid new asks more h k = (led-both old.handle mid.handle new.handle asks more h.0 k.0, k.1 ∙ h.1, k.2 ∙ h.2)

  fits-front : (asks more : List Ask) (all : List Ask) → Fits (asks ++ more) all → Fits asks all
  fits-front asks more all h = (all-front (BearOut finds misses lacks (fails all) deep told config now) asks more h.0, all-front IsTyped asks more h.1)

  fits-back : (asks more : List Ask) (all : List Ask) → Fits (asks ++ more) all → Fits more all
  fits-back asks more all h = (all-back (BearOut finds misses lacks (fails all) deep told config now) asks more h.0, all-back IsTyped asks more h.1)

  abbrev AsksClient : Lookups (CachingClient H) Query
  AsksClient old q reply new = Answers gives options now old q reply new

  question-by : EachExplained {All = List Ask} Path Fits Good path-none path-both fits-front fits-back AsksClient
      (λ all. ByClaims finds lacks (fails all) now)
  question-by old new q reply h =
      let bounds = settings-stay (lookup_settings old options) now 0 [] old.cache q h.asks reply new.cache h.looks in (
        h.asks,
        (h.led, h.settings, bounds.1),
        λ all fits good.
            let looks : Looks told now 0 [] old.cache q h.asks reply new.cache =
            subst (λ (b : Bool). Looks (record { preserve_intermediates = b; dnssec_ok = options.edns_set_dnssec_ok }) now 0 []
            old.cache q h.asks reply new.cache) good.0 h.looks in
            let kept = lookup-keeps low short longest finds misses lacks (fails all) deep answers absences special told now 0 [] old.cache q h.asks reply new.cache
            (subst (HasNoLeast low short longest) (sym good.1) none) (none-kept told q) (start q) good.2.holds
            (subst (λ (c : TtlConfigContent). All (BearOut finds misses lacks (fails all) deep told c now) h.asks) (sym good.1) fits.0) looks in
            let fit = lookup-fits round told now 0 [] old.cache q h.asks reply new.cache (All-nil (λ r. has_type types.CNAME r ≡ true))
            good.2.typed fits.1 looks in (
              (h.settings ∙ good.0, bounds.1 ∙ good.1, record { holds = kept.0; typed = fit.0 }),
              record { holds = kept.1; typed = fit.1 },
            ),
      )

-- ---- lookups of a resolver

module _ {H : Type 0} (gives : Behavior H) (now : ℕ) (old new : Resolver H)
    (low short : Type 0) (longest : Query → ℕ) (finds : Query → ℕ → List Record → Type 0) (misses lacks : Query → ℕ → NoRecords → Type 0)
    (fails : List Ask → Query → ℕ → NetError → Type 0) (deep : ℕ → Query → Type 0)
    (answers : AnswersOutlast low finds) (absences : AbsencesOutlast short longest misses lacks) (special : HoldOfSpecialNames finds lacks)
    (start : (q : Query) → deep 0 q)
    (none : HasNoLeast low short longest old.client.cache.config)
    (round : (number : ℕ) → type_number (type_of number) ≡ number) where
  abbrev options : DnsRequestOptions
  options = request_options old.settings.options

  abbrev config : TtlConfigContent
  config = old.client.cache.config

  abbrev aliases : Bool
  aliases = old.client.preserve_intermediates

  abbrev P : CachingClient H → List Ask → CachingClient H → Type 0
  P = Path gives options now config aliases low short longest finds misses lacks fails deep answers absences special start none round

  abbrev F : List Ask → List Ask → Type 0
  F = Fits gives options now config aliases low short longest finds misses lacks fails deep answers absences special start none round

  abbrev G : List Ask → CachingClient H → Type 0
  G = Good gives options now config aliases low short longest finds misses lacks fails deep answers absences special start none round

  abbrev first : (client : CachingClient H) → P client [] client
  first = path-none gives options now config aliases low short longest finds misses lacks fails deep answers absences special start none round

  abbrev both : (s t u : CachingClient H) (asks more : List Ask) → P s asks t → P t more u → P s (asks ++ more) u
  both = path-both gives options now config aliases low short longest finds misses lacks fails deep answers absences special start none round

  abbrev front : (asks more : List Ask) (all : List Ask) → F (asks ++ more) all → F asks all
  front = fits-front gives options now config aliases low short longest finds misses lacks fails deep answers absences special start none round

  abbrev back : (asks more : List Ask) (all : List Ask) → F (asks ++ more) all → F more all
  back = fits-back gives options now config aliases low short longest finds misses lacks fails deep answers absences special start none round

  explained : (leads : Lookups (Unit {0}) Query → Type 0)
      → Explained P F G first both front back old.client new.client (λ all. leads (ByClaims finds lacks (fails all) now))
      → KeepsClaims low short longest finds misses lacks fails deep gives now old new leads
  explained leads h = record {
    asks = h.0;
    led = h.1.0;
    aliases = h.1.1;
    config = h.1.2;
    keeps = λ support holds.
        let whole = h.2 h.0 (support.bear, support.typed) (refl, refl, holds) in
        (whole.0.2, whole.1);
  }

  pub name-keeps : (name : Result DomainName ParseError) (kind : RecordType) (reply : Reply)
      → LooksUp old.settings now (asks_of gives now old) name kind old.client reply new.client
      → KeepsClaims low short longest finds misses lacks fails deep gives now old new (λ asks. LooksUp old.settings now asks name kind tt reply tt)
  name-keeps name kind reply h =
      explained (λ asks. LooksUp old.settings now asks name kind tt reply tt)
      (looks_up-by P F G first both front back now (asks_of gives now old) (λ all. ByClaims finds lacks (fails all) now)
      (question-by gives options now config aliases low short longest finds misses lacks fails deep answers absences special start none round)
      old.settings name kind old.client new.client reply h)

  pub host-keeps : (address : Option IpAddr) (name : Result DomainName ParseError) (reply : Reply)
      → LooksUpHost old.settings now (asks_of gives now old) address name old.client reply new.client
      → KeepsClaims low short longest finds misses lacks fails deep gives now old new (λ asks. LooksUpHost old.settings now asks address name tt reply tt)
  host-keeps address name reply h =
      explained (λ asks. LooksUpHost old.settings now asks address name tt reply tt)
      (looks_up_host-by P F G first both front back now (asks_of gives now old) (λ all. ByClaims finds lacks (fails all) now)
      (question-by gives options now config aliases low short longest finds misses lacks fails deep answers absences special start none round)
      old.settings address name old.client new.client reply h)

-- ---- between lookups

module _ (low short : Type 0) (longest : Query → ℕ) (finds : Query → ℕ → List Record → Type 0) (misses : Query → ℕ → NoRecords → Type 0) where
  pub held-later : (now later : ℕ) (cache : CacheContent) → now ≤ later → IsHeldCache low short longest finds misses now cache → IsHeldCache low short longest finds misses later cache
  held-later now later cache after h = record { holds = hold-later low short longest finds misses now later cache after h.holds; typed = h.typed }

  pub held-cleared : (now : ℕ) (cache : CacheContent) (settings : Settings) (name : Result DomainName ParseError) (kind : RecordType)
      → IsHeldCache low short longest finds misses now cache
      → IsHeldCache low short longest finds misses now (record cache { entries = cleared_lookup settings name kind cache.entries })
  held-cleared now cache settings name kind h = record {
    holds = all-cleared_lookup (HoldOfEntry low short longest finds misses now) settings name kind cache.entries h.holds;
    typed = all-cleared_lookup (λ (e : Entry). KeptHasAskedTypes e.question e.kept) settings name kind cache.entries h.typed;
  }

  pub held-empty : (now : ℕ) (cache : CacheContent) → IsHeldCache low short longest finds misses now (record cache { entries = [] })
  held-empty now cache = record {
    holds = All-nil (HoldOfEntry low short longest finds misses now);
    typed = All-nil (λ (e : Entry). KeptHasAskedTypes e.question e.kept);
  }
