-- Lookups of a resolver come to what the outcomes of their questions come to; what is left of a cache too.
use Rattle.std.proofs.Common.{ap, ◌≡◌, ◌++◌, false, ℕ, List, [], ◌∷◌, Ok, Err, All, refl, sym, subst, ◌∙◌}
use Rattle.std.specs.Prelude.{Bool, Contains, Option, Result, not}
use Rattle.std.specs.declared.net.ip_addr.IpAddr.{IpAddr}
use Rattle.std.proofs.lemmas.List.Elements.{All-filter, Contains-append_left, Contains-append_right, Contains-push}
use Rattle.dns_wire.specs.declared.codes.record_type.RecordType.{RecordType}
use Rattle.dns_names.specs.Name.{DomainName}
use Rattle.dns_names.specs.declared.error.ParseError.{ParseError}
use Rattle.dns_messages.specs.declared.query.Query.{Query}
use Rattle.stub_config.specs.declared.request_options.DnsRequestOptions.{DnsRequestOptions}
use Rattle.stub_lookup.specs.declared.error.NetError.{NetError}
use Rattle.stub_cache.specs.Cache.{is_about}
use Rattle.stub_hosts.specs.Hosts.{question}
use Rattle.stub_cache.specs.declared.cache.entry.Entry.{Entry}
use Rattle.stub_client.specs.Handle.{Ask, Behavior, Led}
use Rattle.stub_client.specs.Looks.{Answers, Looks, Reply, lookup_settings}
use Rattle.stub_client.specs.Outcomes.{AreAmong, ChainsEnd, ComesTo, EndsInError}
use Rattle.stub_client.specs.Conclusions.{CacheComesTo}
use Rattle.stub_client.specs.Step.{meaning}
use Rattle.stub_client.specs.declared.caching_client.CachingClient.{CachingClient}
use Rattle.stub_client.specs.declared.caching_client.step.LookupSettings.{LookupSettings}
use Rattle.stub_client.proofs.ErrorsLaws.{error-ends}
use Rattle.stub_client.proofs.OutcomesLaws.{leads-still, outcomes-come}
use Rattle.stub_core.specs.Attempts.{Lookups}
use Rattle.stub_core.specs.Outcomes.{ByOutcomes, ComesToOutcomes, settings_of}
use Rattle.stub_core.specs.Resolver.{LooksUp, LooksUpHost, asks_of, cleared_lookup, cleared_names, names_for, request_options}
use Rattle.stub_core.specs.declared.resolver.Resolver.{Resolver}
use Rattle.stub_core.specs.declared.resolver.settings.Settings.{Settings}
use Rattle.stub_core.proofs.StatelessLaws.{EachExplained, Explained, looks_up-by, looks_up_host-by}

-- ---- errors

-- the outcome that an error is from is among the asks
error-among : (asks all : List Ask) (error : NetError) → AreAmong asks all → EndsInError asks error
    → (ask : Ask) × Contains all ask × (meaning ask.outcome ≡ Err error)
error-among asks all error are h =
    let there : Contains asks h.last =
    subst (λ (xs : List Ask). Contains xs h.last) (sym h.is_last) (Contains-push h.earlier h.last) in
    (h.last, are h.last there, h.is_error)

-- ---- questions

module _ {H : Type 0} (gives : Behavior H) (options : DnsRequestOptions) (now : ℕ) (told : LookupSettings)
    (off : told.preserve_intermediates ≡ false) (secure : told.dnssec_ok ≡ options.edns_set_dnssec_ok) where
  -- these asks lead a client from one state to another
  abbrev Path : CachingClient H → List Ask → CachingClient H → Type 0
  Path old asks new =
      Led gives options now old.handle asks new.handle × (new.preserve_intermediates ≡ old.preserve_intermediates)

  -- asks are among others, and their chains end
  abbrev Fits : List Ask → List Ask → Type 0
  Fits asks all = AreAmong asks all × ChainsEnd told asks

  -- asks explain what the cache of a client has
  abbrev Good : List Ask → CachingClient H → Type 0
  Good all client = (client.preserve_intermediates ≡ false) × CacheComesTo (ComesTo told all) client.cache

  path-none : (client : CachingClient H) → Path client [] client
  path-none client = (refl, refl)

  led-both : (old mid new : H) (asks more : List Ask) → Led gives options now old asks mid → Led gives options now mid more new
      → Led gives options now old (asks ++ more) new
  led-both old mid new [] more h k = subst (λ (s : H). Led gives options now s more new) h k
  led-both old mid new (ask ∷ asks) more h k = (h.0, h.1, led-both h.0 mid new asks more h.2 k)

  path-both : (old mid new : CachingClient H) (asks more : List Ask) → Path old asks mid → Path mid more new
      → Path old (asks ++ more) new
  path-both old mid new asks more h k = (led-both old.handle mid.handle new.handle asks more h.0 k.0, k.1 ∙ h.1)

  chains-end : (asks others : List Ask) → AreAmong asks others → ChainsEnd told others → ChainsEnd told asks
  chains-end asks others are end = λ first last links leads. end first last links (leads-still told asks others are leads)

  fits-left : (asks more all : List Ask) → Fits (asks ++ more) all → Fits asks all
  fits-left asks more all h =
      let are : AreAmong asks (asks ++ more) = λ ask there. Contains-append_left asks more ask there in
      ((λ ask there. h.0 ask (are ask there)), chains-end asks (asks ++ more) are h.1)

  fits-right : (asks more all : List Ask) → Fits (asks ++ more) all → Fits more all
  fits-right asks more all h =
      let are : AreAmong more (asks ++ more) = λ ask there. Contains-append_right asks more ask there in
      ((λ ask there. h.0 ask (are ask there)), chains-end more (asks ++ more) are h.1)

  told-by : (client : CachingClient H) → client.preserve_intermediates ≡ false → lookup_settings client options ≡ told
  told-by client is =
      let with_aliases : Bool → LookupSettings = λ b. record { preserve_intermediates = b; dnssec_ok = options.edns_set_dnssec_ok } in
      let with_dnssec : Bool → LookupSettings = λ b. record told { dnssec_ok = b } in
      ap with_aliases (is ∙ sym off) ∙ ap with_dnssec (sym secure)

  abbrev AsksClient : Lookups (CachingClient H) Query
  AsksClient old q reply new = Answers gives options now old q reply new

  -- a question comes to what its outcomes come to
  question-by : EachExplained {All = List Ask} Path Fits Good path-none path-both fits-left fits-right AsksClient (λ all. ByOutcomes told all)
  question-by old new q reply h = (
    h.asks,
    (h.led, h.settings),
    λ all fits good.
        let looks : Looks told now 0 [] old.cache q h.asks reply new.cache =
        subst (λ (s : LookupSettings). Looks s now 0 [] old.cache q h.asks reply new.cache) (told-by old good.0) h.looks in
        let comes = outcomes-come told h.asks all fits.0 fits.1 now old.cache q reply new.cache off good.1 looks in (
          (h.settings ∙ good.0, comes.0),
          record {
            comes = comes.1;
            error = λ error is failure memory.
                error-among h.asks all error fits.0
                (error-ends error failure memory told now 0 [] old.cache q h.asks reply new.cache looks is);
          },
        ),
  )

-- ---- lookups of a resolver

module _ {H : Type 0} (gives : Behavior H) (now : ℕ) (old new : Resolver H) (off : old.client.preserve_intermediates ≡ false) where
  abbrev options : DnsRequestOptions
  options = request_options old.settings.options

  explained : (leads : Lookups (Unit {0}) Query → Type 0)
      → Explained (Path gives options now (settings_of old) off refl) (Fits gives options now (settings_of old) off refl)
      (Good gives options now (settings_of old) off refl) (path-none gives options now (settings_of old) off refl)
      (path-both gives options now (settings_of old) off refl)
      (fits-left gives options now (settings_of old) off refl) (fits-right gives options now (settings_of old) off refl)
      old.client new.client (λ all. leads (ByOutcomes (settings_of old) all))
      → ComesToOutcomes gives now old new leads
  explained leads h = record {
    asks = h.0;
    led = h.1.0;
    comes = λ all are end holds.
        let whole = h.2 all (are, end) (off, holds) in
        (whole.0.1, whole.1);
  }

  pub name-comes : (name : Result DomainName ParseError) (kind : RecordType) (reply : Reply)
      → LooksUp old.settings now (asks_of gives now old) name kind old.client reply new.client
      → ComesToOutcomes gives now old new (λ asks. LooksUp old.settings now asks name kind tt reply tt)
  name-comes name kind reply h =
      explained (λ asks. LooksUp old.settings now asks name kind tt reply tt)
      (looks_up-by (Path gives options now (settings_of old) off refl) (Fits gives options now (settings_of old) off refl)
      (Good gives options now (settings_of old) off refl) (path-none gives options now (settings_of old) off refl)
      (path-both gives options now (settings_of old) off refl)
      (fits-left gives options now (settings_of old) off refl) (fits-right gives options now (settings_of old) off refl)
      now (asks_of gives now old) (λ all. ByOutcomes (settings_of old) all)
      (question-by gives options now (settings_of old) off refl) old.settings name kind old.client new.client reply h)

  pub host-comes : (address : Option IpAddr) (name : Result DomainName ParseError) (reply : Reply)
      → LooksUpHost old.settings now (asks_of gives now old) address name old.client reply new.client
      → ComesToOutcomes gives now old new (λ asks. LooksUpHost old.settings now asks address name tt reply tt)
  host-comes address name reply h =
      explained (λ asks. LooksUpHost old.settings now asks address name tt reply tt)
      (looks_up_host-by (Path gives options now (settings_of old) off refl) (Fits gives options now (settings_of old) off refl)
      (Good gives options now (settings_of old) off refl) (path-none gives options now (settings_of old) off refl)
      (path-both gives options now (settings_of old) off refl)
      (fits-left gives options now (settings_of old) off refl) (fits-right gives options now (settings_of old) off refl)
      now (asks_of gives now old) (λ all. ByOutcomes (settings_of old) all)
      (question-by gives options now (settings_of old) off refl) old.settings address name old.client new.client reply h)

-- ---- clears

module _ (F : Entry → Type 0) where
  all-cleared : (kind : RecordType) (names : List DomainName) (entries : List Entry) → All F entries
      → All F (cleared_names kind names entries)
  all-cleared kind [] entries h = h
  all-cleared kind (name ∷ names) entries h =
      all-cleared kind names _ (All-filter (λ e. not (is_about (question name kind) e)) F entries h)

  pub all-cleared_lookup : (settings : Settings) (name : Result DomainName ParseError) (kind : RecordType) (entries : List Entry)
      → All F entries → All F (cleared_lookup settings name kind entries)
  all-cleared_lookup settings (Ok name) kind entries h = all-cleared kind (names_for settings name) entries h
  all-cleared_lookup settings (Err error) kind entries h = h
