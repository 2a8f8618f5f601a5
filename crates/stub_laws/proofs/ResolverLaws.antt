-- Lookups of a client and of a resolver come to walks over a zone that answers their questions.
use Rattle.std.proofs.Common.{ap, ◌≡◌, ◌++◌, true, false, ℕ, List, [], ◌∷◌, All, refl, sym, subst, ◌∙◌}
use Rattle.std.specs.Prelude.{Bool, Contains, Option, Result}
use Rattle.std.specs.declared.net.ip_addr.IpAddr.{IpAddr}
use Rattle.std.proofs.lemmas.List.Elements.{All-append, All-contains, All-contains_itself, All-nil, All-weaker, Contains-append_left, Contains-append_right, Contains-push}
use Rattle.dns_wire.specs.codes.DNSClass.{class_number}
use Rattle.dns_wire.specs.codes.RecordType.{type_number}
use Rattle.dns_wire.specs.declared.codes.record_type.RecordType.{RecordType}
use Rattle.dns_names.specs.Name.{DomainName}
use Rattle.dns_names.specs.declared.error.ParseError.{ParseError}
use Rattle.dns_messages.specs.declared.query.Query.{Query}
use Rattle.dns_zone.specs.Answer.{is_no_row_type}
use Rattle.dns_zone.specs.Rows.{IsZone, ZoneContent}
use Rattle.stub_config.specs.declared.request_options.DnsRequestOptions.{DnsRequestOptions}
use Rattle.stub_hosts.specs.Hosts.{question}
use Rattle.stub_cache.specs.Cache.{CacheContent}
use Rattle.stub_client.specs.Conclusions.{ReplyComesTo}
use Rattle.stub_client.specs.Handle.{Ask, Behavior, Led}
use Rattle.stub_client.specs.Looks.{Answers, Looks, Reply, lookup_settings}
use Rattle.stub_client.specs.declared.caching_client.CachingClient.{CachingClient}
use Rattle.stub_client.specs.declared.caching_client.step.LookupSettings.{LookupSettings}
use Rattle.stub_client.proofs.ErrorsLaws.{error-ends}
use Rattle.stub_core.specs.Attempts.{Lookups}
use Rattle.stub_core.specs.Origins.{names_of}
use Rattle.stub_core.specs.Outcomes.{ErrorIsOutcome}
use Rattle.stub_core.specs.Resolver.{LooksUp, LooksUpHost, asks_of, request_options}
use Rattle.stub_core.specs.declared.resolver.Resolver.{Resolver}
use Rattle.stub_core.proofs.OrdinaryLaws.{ordinary-asks}
use Rattle.stub_core.proofs.StatelessLaws.{EachExplained, Explained, looks_up-by, looks_up_host-by}
use Rattle.stub_laws.specs.walk.Answered.{ComesToWalk, HaveNoFault, IsAsked, IsOrdinary, IsWalkedLookup}
use Rattle.stub_laws.specs.walk.Walk.{AgreesWithWalk, AreShortAt, ByDirectWalk, ByWalk, CacheAgrees, HasShortAliasesAt, HasShortAliasesIn, IsDirect, IsWalked, walks_everywhere}
use Rattle.stub_laws.proofs.ComingLaws.{lookup-agrees, reply-walked}
use Rattle.stub_laws.proofs.DirectLaws.{everywhere-direct, everywhere-rows}
use Rattle.stub_laws.proofs.MoreLaws.{more-looks-up, more-looks-up-host}

-- ---- errors

-- the outcome that an error is from is among the asks
error-from : (asks : List Ask) (settings : LookupSettings) (now : ℕ) (old : CacheContent) (q : Query) (reply : Reply) (new : CacheContent)
    → Looks settings now 0 [] old q asks reply new → ErrorIsOutcome asks reply
error-from asks settings now old q reply new looks = λ error is failure memory.
    let end = error-ends error failure memory settings now 0 [] old q asks reply new looks is in
    (end.last, subst (λ (xs : List Ask). Contains xs end.last) (sym end.is_last) (Contains-push end.earlier end.last), end.is_error)

error-among : (asks all : List Ask) (reply : Reply) → ((ask : Ask) → Contains asks ask → Contains all ask) → ErrorIsOutcome asks reply
    → ErrorIsOutcome all reply
error-among asks all reply are from = λ error is failure memory.
    let h = from error is failure memory in
    (h.0, are h.0 h.1, h.2)

-- ---- clients

module _ (zone : ZoneContent) (good : IsZone zone) where
  pub client-agrees : (settings : LookupSettings) → settings.preserve_intermediates ≡ false → (now : ℕ) (old : CacheContent) (q : Query) (asks : List Ask)
      (reply : Reply) (new : CacheContent) → All (IsAsked zone) asks → CacheAgrees zone old → Looks settings now 0 [] old q asks reply new
      → CacheAgrees zone new
      × (HaveNoFault asks → is_no_row_type (type_number q.query_type) ≡ false → class_number q.query_class ≡ 1
      → IsDirect zone q.query_type q.name → HasShortAliasesIn zone q.query_type q.name → IsWalked zone q reply)
  client-agrees settings off now old q asks reply new asked agrees looks =
      let whole = lookup-agrees zone good settings off now old q asks reply new asked agrees looks in
      (whole.0, reply-walked zone asks q reply whole.1 (error-from asks settings now old q reply new looks))

  -- ---- questions of a resolver

  -- a reply agrees with the walk, or its error is from one of the asks
  pub record AgreesOrFails (asks : List Ask) (q : Query) (reply : Reply) : Type 0 where
    pub agrees : ReplyComesTo (AgreesWithWalk zone) q reply
    pub error : ErrorIsOutcome asks reply

  abbrev ByAgreement : List Ask → Lookups (Unit {0}) Query
  ByAgreement asks old q reply new = AgreesOrFails asks q reply

  module _ {H : Type 0} (gives : Behavior H) (options : DnsRequestOptions) (now : ℕ) (told : LookupSettings)
      (off : told.preserve_intermediates ≡ false) (secure : told.dnssec_ok ≡ options.edns_set_dnssec_ok) where
    -- these asks, none of them for a special-use name, lead a client from one state to another
    abbrev Path : CachingClient H → List Ask → CachingClient H → Type 0
    Path old asks new =
        Led gives options now old.handle asks new.handle
        × (new.preserve_intermediates ≡ old.preserve_intermediates)
        × All IsOrdinary asks

    -- the zone answers the asks, and they are among others
    abbrev Fits : List Ask → List Ask → Type 0
    Fits asks all = ((ask : Ask) → Contains asks ask → Contains all ask) × All (IsAsked zone) asks

    abbrev Good : List Ask → CachingClient H → Type 0
    Good all client = (client.preserve_intermediates ≡ false) × CacheAgrees zone client.cache

    path-none : (client : CachingClient H) → Path client [] client
    path-none client = (refl, refl, All-nil IsOrdinary)

    led-both : (old mid new : H) (asks more : List Ask) → Led gives options now old asks mid → Led gives options now mid more new
        → Led gives options now old (asks ++ more) new
    led-both old mid new [] more h k = subst (λ (s : H). Led gives options now s more new) h k
    led-both old mid new (ask ∷ asks) more h k = (h.0, h.1, led-both h.0 mid new asks more h.2 k)

    path-both : (old mid new : CachingClient H) (asks more : List Ask) → Path old asks mid → Path mid more new
        → Path old (asks ++ more) new
    path-both old mid new asks more h k =
        (led-both old.handle mid.handle new.handle asks more h.0 k.0, k.1 ∙ h.1, All-append IsOrdinary asks more h.2 k.2)

    part-left : (asks more : List Ask) → All (IsAsked zone) (asks ++ more) → All (IsAsked zone) asks
    part-left asks more h =
        All-weaker (Contains asks) (IsAsked zone)
        (λ ask there. All-contains (IsAsked zone) (asks ++ more) ask h (Contains-append_left asks more ask there)) asks (All-contains_itself asks)

    part-right : (asks more : List Ask) → All (IsAsked zone) (asks ++ more) → All (IsAsked zone) more
    part-right asks more h =
        All-weaker (Contains more) (IsAsked zone)
        (λ ask there. All-contains (IsAsked zone) (asks ++ more) ask h (Contains-append_right asks more ask there)) more (All-contains_itself more)

    fits-left : (asks more all : List Ask) → Fits (asks ++ more) all → Fits asks all
    fits-left asks more all h = (λ ask there. h.0 ask (Contains-append_left asks more ask there), part-left asks more h.1)

    fits-right : (asks more all : List Ask) → Fits (asks ++ more) all → Fits more all
    fits-right asks more all h = (λ ask there. h.0 ask (Contains-append_right asks more ask there), part-right asks more h.1)

    told-by : (client : CachingClient H) → client.preserve_intermediates ≡ false → lookup_settings client options ≡ told
    told-by client is =
        let with_aliases : Bool → LookupSettings = λ b. record { preserve_intermediates = b; dnssec_ok = options.edns_set_dnssec_ok } in
        let with_dnssec : Bool → LookupSettings = λ b. record told { dnssec_ok = b } in
        ap with_aliases (is ∙ sym off) ∙ ap with_dnssec (sym secure)

    abbrev AsksClient : Lookups (CachingClient H) Query
    AsksClient old q reply new = Answers gives options now old q reply new

    -- a question comes to what its walk comes to
    question-by : EachExplained {All = List Ask} Path Fits Good path-none path-both fits-left fits-right AsksClient ByAgreement
    question-by old new q reply h = (
      h.asks,
      (h.led, h.settings, ordinary-asks (lookup_settings old options) now 0 [] old.cache q h.asks reply new.cache h.looks),
      λ all fits good_client.
          let looks : Looks told now 0 [] old.cache q h.asks reply new.cache =
          subst (λ (s : LookupSettings). Looks s now 0 [] old.cache q h.asks reply new.cache) (told-by old good_client.0) h.looks in
          let agrees = lookup-agrees zone good told off now old.cache q h.asks reply new.cache fits.1 good_client.1 looks in (
            (h.settings ∙ good_client.0, agrees.0),
            record {
              agrees = agrees.1;
              error = error-among h.asks all reply fits.0 (error-from h.asks told now old.cache q reply new.cache looks);
            },
          ),
    )

  -- ---- lookups of a resolver

  abbrev HasRows : RecordType → Type 0
  HasRows kind = is_no_row_type (type_number kind) ≡ false

  abbrev Everywhere : RecordType → Type 0
  Everywhere kind = walks_everywhere kind ≡ true

  -- a question is walked if a lookup of its type walks from the name, and chains through the name are short
  question-direct : (asks : List Ask) → HaveNoFault asks → (name : DomainName) (kind : RecordType) → HasShortAliasesAt zone name → HasRows kind
      → (old : Unit {0}) (reply : Reply) (new : Unit {0}) → ByAgreement asks old (question name kind) reply new
      → ByDirectWalk zone old (question name kind) reply new
  question-direct asks none name kind short typed old reply new h = λ direct.
      reply-walked zone asks (question name kind) reply h.agrees h.error none typed refl direct (λ of_zone. short)

  -- so it is if a lookup of its type walks from every name
  question-walked : (asks : List Ask) → HaveNoFault asks → (name : DomainName) (kind : RecordType) → HasShortAliasesAt zone name → Everywhere kind
      → (old : Unit {0}) (reply : Reply) (new : Unit {0}) → ByAgreement asks old (question name kind) reply new
      → ByWalk zone old (question name kind) reply new
  question-walked asks none name kind short every old reply new h =
      question-direct asks none name kind short (everywhere-rows kind every) old reply new h (everywhere-direct zone kind name every)

  module _ {H : Type 0} (gives : Behavior H) (now : ℕ) (old new : Resolver H) (off : old.client.preserve_intermediates ≡ false) where
    abbrev options : DnsRequestOptions
    options = request_options old.settings.options

    abbrev told : LookupSettings
    told = lookup_settings old.client options

    explained : (leads : Lookups (Unit {0}) Query → Type 0) (walked : Type 0)
        → ((asks : List Ask) → HaveNoFault asks → leads (ByAgreement asks) → walked)
        → Explained (Path gives options now told off refl) (Fits gives options now told off refl) (Good gives options now told off refl)
        (path-none gives options now told off refl) (path-both gives options now told off refl)
        (fits-left gives options now told off refl) (fits-right gives options now told off refl)
        old.client new.client (λ all. leads (ByAgreement all))
        → ComesToWalk zone gives now old new walked
    explained leads walked more h = record {
      asks = h.0;
      led = h.1.0;
      ordinary = h.1.2;
      aliases = h.1.1;
      keeps = λ asked agrees. (h.2 h.0 (λ ask there. there, asked) (off, agrees)).0.1;
      walks = λ asked none agrees. more h.0 none (h.2 h.0 (λ ask there. there, asked) (off, agrees)).1;
    }

    abbrev Short : DomainName → Type 0
    Short = HasShortAliasesAt zone

    pub name-walks : (name : Result DomainName ParseError) (kind : RecordType) (reply : Reply)
        → LooksUp old.settings now (asks_of gives now old) name kind old.client reply new.client
        → ComesToWalk zone gives now old new (AreShortAt zone (names_of old.settings name) → IsWalkedLookup zone old.settings now name kind reply)
    name-walks name kind reply h =
        explained (λ asks. LooksUp old.settings now asks name kind tt reply tt)
        (AreShortAt zone (names_of old.settings name) → IsWalkedLookup zone old.settings now name kind reply)
        (λ asks none looks short. record {
          everywhere = λ every.
              more-looks-up now (ByAgreement asks) (ByWalk zone) Short Everywhere (question-walked asks none) old.settings name kind short every tt reply
              tt looks;
          direct = λ typed.
              more-looks-up now (ByAgreement asks) (ByDirectWalk zone) Short HasRows (question-direct asks none) old.settings name kind short typed tt
              reply tt looks;
        })
        (looks_up-by (Path gives options now told off refl) (Fits gives options now told off refl)
        (Good gives options now told off refl) (path-none gives options now told off refl) (path-both gives options now told off refl)
        (fits-left gives options now told off refl) (fits-right gives options now told off refl)
        now (asks_of gives now old) ByAgreement (question-by gives options now told off refl) old.settings name kind old.client new.client reply h)

    pub host-walks : (address : Option IpAddr) (name : Result DomainName ParseError) (reply : Reply)
        → LooksUpHost old.settings now (asks_of gives now old) address name old.client reply new.client
        → ComesToWalk zone gives now old new
        (AreShortAt zone (names_of old.settings name) → LooksUpHost old.settings now (ByWalk zone) address name tt reply tt)
    host-walks address name reply h =
        explained (λ asks. LooksUpHost old.settings now asks address name tt reply tt)
        (AreShortAt zone (names_of old.settings name) → LooksUpHost old.settings now (ByWalk zone) address name tt reply tt)
        (λ asks none looks short. more-looks-up-host now (ByAgreement asks) (ByWalk zone) Short Everywhere (question-walked asks none)
        old.settings refl refl address name short tt reply tt looks)
        (looks_up_host-by (Path gives options now told off refl) (Fits gives options now told off refl)
        (Good gives options now told off refl) (path-none gives options now told off refl) (path-both gives options now told off refl)
        (fits-left gives options now told off refl) (fits-right gives options now told off refl)
        now (asks_of gives now old) ByAgreement (question-by gives options now told off refl) old.settings address name old.client new.client reply h)
