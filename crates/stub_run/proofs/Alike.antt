-- Lookups over handles that are alike: what one of them leads to, the other leads to as well, with the same replies.
use Rattle.std.proofs.Common.{◌≡◌, inl, inr, true, false, ℕ, List, [], ◌∷◌, Some, None, Ok, Err, refl, sym, ap, subst, ◌∙◌}
use Rattle.std.specs.Prelude.{Bool, Option, Result, string_bytes}
use Rattle.std.specs.declared.net.ip_addr.IpAddr.{IpAddr}
use Rattle.dns_wire.specs.declared.codes.record_type.RecordType.{RecordType}
use Rattle.dns_wire.specs.declared.codes.record_type.RecordType.TheVariants as types
use Rattle.dns_names.specs.Name.{DomainName}
use Rattle.dns_names.specs.Parse.{name_of_text}
use Rattle.dns_names.specs.declared.error.ParseError.{ParseError}
use Rattle.dns_text.specs.Address.{IsTextOf}
use Rattle.dns_data.specs.declared.rdata.RData.{RData}
use Rattle.dns_messages.specs.declared.query.Query.{Query}
use Rattle.dns_messages.specs.declared.message.Message.{Message}
use Rattle.dns_messages.specs.declared.response_code.ResponseCode.{ResponseCode}
use Rattle.stub_config.specs.declared.request_options.DnsRequestOptions.{DnsRequestOptions}
use Rattle.stub_config.specs.declared.strategy.LookupIpStrategy.{LookupIpStrategy}
use Rattle.stub_config.specs.declared.strategy.LookupIpStrategy.TheVariants.{Ipv4Only, Ipv6Only, Ipv4AndIpv6, Ipv6AndIpv4, Ipv6thenIpv4, Ipv4thenIpv6}
use Rattle.stub_lookup.specs.Lookup.{LookupContent}
use Rattle.stub_lookup.specs.declared.error.NetError.{NetError}
use Rattle.stub_lookup.specs.declared.error.NetError.TheVariants as errors
use Rattle.stub_cache.specs.Cache.{CacheContent}
use Rattle.stub_hosts.specs.Hosts.{HostsContent, address_data, question, static_lookup}
use Rattle.stub_core.specs.Attempts.{Attempts, AttemptsAll, AttemptsWithHosts, Continues, Lookups, Unless, UnlessMemory, WithHosts, is_final}
use Rattle.stub_client.specs.Handle.{Ask, Behavior, Led, Outcome, request_for}
use Rattle.stub_client.specs.Looks.{Answers, Looks, Reply, lookup_settings}
use Rattle.stub_core.specs.Resolver.{AnswersHost, AnswersName, LooksUp, LooksUpHost, LooksUpName, ResolvesHost, ResolvesName, cleared_lookup, is_tried_as_name, known_type, names_for, request_options, with_entries, with_handle}
use Rattle.stub_core.specs.Strategies.{Both, ByStrategy, Joins, LooksUpAddresses, LooksUpIp, Then, is_out_of_memory, no_addresses}
use Rattle.stub_client.specs.declared.caching_client.CachingClient.{CachingClient}
use Rattle.stub_client.specs.declared.request.DnsRequest.{DnsRequest}
use Rattle.stub_core.specs.declared.resolver.Resolver.{Resolver}
use Rattle.stub_core.specs.declared.resolver.settings.Settings.{Settings}
use Rattle.stub_link.specs.Request.{IsUpdate}
use Rattle.stub_run.specs.Alike.{AreAlike, AreAlikeClients}
use Rattle.stub_run.specs.Run.{Clears, Replies, Updates}
use Rattle.stub_run.specs.declared.event.Action.{Action}
use Rattle.stub_run.specs.declared.event.Action.TheVariants as actions
use Rattle.stub_run.specs.declared.report.EventReply.{EventReply}
use Rattle.stub_run.specs.declared.report.EventReply.TheVariants as replies

-- ---- lookups over states that are alike

module _ {S T : Type 0} (is_in : S → T → Type 0) where
  -- a state that the new one is in, to which this leads
  abbrev pub LeadsAlong : S → (T → Type 0) → Type 0
  LeadsAlong new leads = (after : T) × is_in new after × leads after

  -- lookups of one kind of state are carried along by those of the other
  abbrev pub CarriesLookups : {A : Type 0} → Lookups S A → Lookups T A → Type 0
  CarriesLookups {A} asks others =
      (old new : S) (state : T) (asked : A) (reply : Reply) → is_in old state → asks old asked reply new
      → LeadsAlong new (λ after. others state asked reply after)

  -- nothing happens
  stays : (leads : T → Type 0) (old new : S) (state : T) → is_in old state → new ≡ old → leads state → LeadsAlong new leads
  stays leads old new state alike same led = (state, subst (λ (s : S). is_in s state) (sym same) alike, led)

  -- ---- names

  continues-alike : (ends : Bool) (rest : Reply → S → Type 0) (others : Reply → T → Type 0) (last : Reply) (old : S) (state : T)
      (reply : Reply) (new : S) → is_in old state → (rest reply new → LeadsAlong new (λ after. others reply after))
      → Continues ends rest last old reply new → LeadsAlong new (λ after. Continues ends others last state reply after)
  continues-alike true rest others last old state reply new alike carries h =
      stays (λ after. (reply ≡ last) × (after ≡ state)) old new state alike h.1 (h.0, refl)
  continues-alike false rest others last old state reply new alike carries h = carries h

  module _ (tries : Lookups S DomainName) (others : Lookups T DomainName) (carries : CarriesLookups tries others) where
    attempts-alike : (last : Reply) (old : S) (state : T) (names : List DomainName) (reply : Reply) (new : S) → is_in old state
        → Attempts tries last old names reply new → LeadsAlong new (λ after. Attempts others last state names reply after)
    attempts-alike last old state [] reply new alike h =
        stays (λ after. (reply ≡ last) × (after ≡ state)) old new state alike h.1 (h.0, refl)
    attempts-alike last old state (name ∷ names) reply new alike h =
        continues-alike (is_final last)
        (λ reply new. (next : Reply) × (mid : S) × tries old name next mid × Attempts tries next mid names reply new)
        (λ reply after. (next : Reply) × (mid : T) × others state name next mid × Attempts others next mid names reply after)
        last old state reply new alike
        (λ attempted.
        let step = carries old attempted.1 state name attempted.0 alike attempted.2 in
        let rest = attempts-alike attempted.0 attempted.1 step.0 names reply new step.1 attempted.3 in
        (rest.0, rest.1, (attempted.0, step.0, step.2, rest.2)))
        h

    attempts_all-alike : (text : List ℕ) (old new : S) (state : T) (names : List DomainName) (reply : Reply) → is_in old state
        → AttemptsAll text tries old names reply new → LeadsAlong new (λ after. AttemptsAll text others state names reply after)
    attempts_all-alike text old new state names reply alike h =
        let all = attempts-alike h.0 old state names reply new alike h.2 in
        (all.0, all.1, (h.0, h.1, all.2))

  -- ---- hosts

  unless_memory-alike : (looks : Type 0) (others : T → Type 0) (old : S) (state : T) (reply : Reply) (new : S) → is_in old state
      → (looks → LeadsAlong new others) → UnlessMemory looks old reply new
      → LeadsAlong new (λ after. UnlessMemory (others after) state reply after)
  unless_memory-alike looks others old state reply new alike carries (inl memory) =
      stays (λ after. UnlessMemory (others after) state reply after) old new state alike memory.1 (inl (memory.0, refl))
  unless_memory-alike looks others old state reply new alike carries (inr h) =
      let led = carries h in
      (led.0, led.1, inr led.2)

  unless-alike : (known : Option LookupContent) (asks : Reply → S → Type 0) (others : Reply → T → Type 0) (old : S) (state : T)
      (reply : Reply) (new : S) → is_in old state → (asks reply new → LeadsAlong new (λ after. others reply after))
      → Unless known asks old reply new → LeadsAlong new (λ after. Unless known others state reply after)
  unless-alike None asks others old state reply new alike carries h =
      unless_memory-alike (asks reply new) (λ after. others reply after) old state reply new alike carries h
  unless-alike (Some lookup) asks others old state reply new alike carries h =
      stays (λ after. Unless (Some lookup) others state reply after) old new state alike h.1 (h.0, refl)

  -- ---- two types

  module _ (tries : Lookups S RecordType) (others : Lookups T RecordType) (carries : CarriesLookups tries others) where
    both-alike : (first second : RecordType) (old new : S) (state : T) (reply : Reply) → is_in old state
        → Both tries first second old reply new → LeadsAlong new (λ after. Both others first second state reply after)
    both-alike first second old new state reply alike h =
        let step = carries old h.1 state first h.0 alike h.2 in
        let rest = continues-alike (is_out_of_memory h.0)
        (λ reply new. (two : Reply) × tries h.1 second two new × Joins h.0 two reply)
        (λ reply after. (two : Reply) × others step.0 second two after × Joins h.0 two reply)
        h.0 h.1 step.0 reply new step.1
        (λ again.
        let last = carries h.1 new step.0 second again.0 step.1 again.1 in
        (last.0, last.1, (again.0, last.2, again.2)))
        h.3 in
        (rest.0, rest.1, (h.0, step.0, step.2, rest.2))

    then-alike : (first second : RecordType) (old new : S) (state : T) (reply : Reply) → is_in old state
        → Then tries first second old reply new → LeadsAlong new (λ after. Then others first second state reply after)
    then-alike first second old new state reply alike h =
        let step = carries old h.1 state first h.0 alike h.2 in
        let rest = continues-alike (is_final h.0)
        (λ reply new. tries h.1 second reply new) (λ reply after. others step.0 second reply after)
        h.0 h.1 step.0 reply new step.1 (λ again. carries h.1 new step.0 second reply step.1 again) h.3 in
        (rest.0, rest.1, (h.0, step.0, step.2, rest.2))

    by_strategy-alike : (strategy : LookupIpStrategy) (old new : S) (state : T) (reply : Reply) → is_in old state
        → ByStrategy strategy tries old reply new → LeadsAlong new (λ after. ByStrategy strategy others state reply after)
    by_strategy-alike Ipv4Only old new state reply alike h = carries old new state types.A reply alike h
    by_strategy-alike Ipv6Only old new state reply alike h = carries old new state types.AAAA reply alike h
    by_strategy-alike Ipv4AndIpv6 old new state reply alike h = both-alike types.A types.AAAA old new state reply alike h
    by_strategy-alike Ipv6AndIpv4 old new state reply alike h = both-alike types.AAAA types.A old new state reply alike h
    by_strategy-alike Ipv6thenIpv4 old new state reply alike h = then-alike types.AAAA types.A old new state reply alike h
    by_strategy-alike Ipv4thenIpv6 old new state reply alike h = then-alike types.A types.AAAA old new state reply alike h

  -- ---- lookups of names and hosts

  module _ (now : ℕ) (asks : Lookups S Query) (others : Lookups T Query) (carries : CarriesLookups asks others) where
    with_hosts-alike : (hosts : HostsContent) (old new : S) (state : T) (q : Query) (reply : Reply) → is_in old state
        → WithHosts hosts now asks old q reply new → LeadsAlong new (λ after. WithHosts hosts now others state q reply after)
    with_hosts-alike hosts old new state q reply alike h =
        unless-alike (static_lookup hosts q now) (λ reply new. asks old q reply new) (λ reply after. others state q reply after)
        old state reply new alike (λ asked. carries old new state q reply alike asked) h

    attempts_with_hosts-alike : (hosts : HostsContent) (kind : RecordType) (old new : S) (state : T) (names : List DomainName)
        (reply : Reply) → is_in old state → AttemptsWithHosts hosts now asks kind old names reply new
        → LeadsAlong new (λ after. AttemptsWithHosts hosts now others kind state names reply after)
    attempts_with_hosts-alike hosts kind old new state [] reply alike h =
        stays (λ after. AttemptsWithHosts hosts now others kind state [] reply after) old new state alike h.1 (h.0, refl)
    attempts_with_hosts-alike hosts kind old new state (name ∷ names) reply alike h =
        let first = with_hosts-alike hosts old h.1 state (question name kind) h.0 alike h.2 in
        let rest = attempts-alike (λ old name reply new. asks old (question name kind) reply new)
        (λ old name reply new. others old (question name kind) reply new)
        (λ old new state name reply alike asked. carries old new state (question name kind) reply alike asked)
        h.0 h.1 first.0 names reply new first.1 h.3 in
        (rest.0, rest.1, (h.0, first.0, first.2, rest.2))

    looks_up_addresses-alike : (strategy : LookupIpStrategy) (hosts : HostsContent) (old new : S) (state : T) (name : DomainName)
        (reply : Reply) → is_in old state → LooksUpAddresses strategy hosts now asks old name reply new
        → LeadsAlong new (λ after. LooksUpAddresses strategy hosts now others state name reply after)
    looks_up_addresses-alike strategy hosts old new state name reply alike h =
        by_strategy-alike (λ old kind reply new. WithHosts hosts now asks old (question name kind) reply new)
        (λ old kind reply new. WithHosts hosts now others old (question name kind) reply new)
        (λ old new state kind reply alike asked. with_hosts-alike hosts old new state (question name kind) reply alike asked)
        strategy old new state reply alike h

    looks_up_ip-alike : (strategy : LookupIpStrategy) (hosts : HostsContent) (finally : Option RData) (old new : S) (state : T)
        (names : List DomainName) (reply : Reply) → is_in old state
        → LooksUpIp strategy hosts now asks finally old names reply new
        → LeadsAlong new (λ after. LooksUpIp strategy hosts now others finally state names reply after)
    looks_up_ip-alike strategy hosts finally old new state names reply alike h =
        let all = attempts_all-alike (λ old name reply new. LooksUpAddresses strategy hosts now asks old name reply new)
        (λ old name reply new. LooksUpAddresses strategy hosts now others old name reply new)
        (λ old new state name reply alike asked. looks_up_addresses-alike strategy hosts old new state name reply alike asked)
        no_addresses old new state names h.0 alike h.1 in
        (all.0, all.1, (h.0, all.2, h.2))

    module _ (settings : Settings) where
      answers_name-alike : (name : Result DomainName ParseError) (kind : RecordType) (old new : S) (state : T) (reply : Reply)
          → is_in old state → AnswersName settings now asks name kind old reply new
          → LeadsAlong new (λ after. AnswersName settings now others name kind state reply after)
      answers_name-alike (Err error) kind old new state reply alike h =
          stays (λ after. AnswersName settings now others (Err error) kind state reply after) old new state alike h.1 (h.0, refl)
      answers_name-alike (Ok name) kind old new state reply alike h =
          attempts_with_hosts-alike settings.hosts kind old new state (names_for settings name) reply alike h

      pub looks_up-alike : (name : Result DomainName ParseError) (kind : RecordType) (old new : S) (state : T) (reply : Reply)
          → is_in old state → LooksUp settings now asks name kind old reply new
          → LeadsAlong new (λ after. LooksUp settings now others name kind state reply after)
      looks_up-alike name kind old new state reply alike h =
          unless_memory-alike (AnswersName settings now asks name (known_type kind) old reply new)
          (λ after. AnswersName settings now others name (known_type kind) state reply after)
          old state reply new alike (λ answers. answers_name-alike name (known_type kind) old new state reply alike answers) h

      looks_up_name-alike : (finally : Option RData) (name : Result DomainName ParseError) (old new : S) (state : T)
          (reply : Reply) → is_in old state → LooksUpName settings now asks finally name old reply new
          → LeadsAlong new (λ after. LooksUpName settings now others finally name state reply after)
      looks_up_name-alike finally (Err error) old new state reply alike h =
          stays (λ after. LooksUpName settings now others finally (Err error) state reply after)
          old new state alike h.1 (h.0, refl)
      looks_up_name-alike finally (Ok name) old new state reply alike h =
          looks_up_ip-alike settings.options.ip_strategy settings.hosts finally old new state (names_for settings name) reply
          alike h

      answers_host-alike : (tried : Bool) (address : Option IpAddr) (name : Result DomainName ParseError) (old new : S)
          (state : T) (reply : Reply) → is_in old state → AnswersHost settings now asks tried address name old reply new
          → LeadsAlong new (λ after. AnswersHost settings now others tried address name state reply after)
      answers_host-alike tried None name old new state reply alike h = looks_up_name-alike None name old new state reply alike h
      answers_host-alike false (Some address) name old new state reply alike h =
          stays (λ after. AnswersHost settings now others false (Some address) name state reply after)
          old new state alike h.1 (h.0, refl)
      answers_host-alike true (Some address) name old new state reply alike h =
          looks_up_name-alike (Some (address_data address)) name old new state reply alike h

      pub looks_up_host-alike : (address : Option IpAddr) (name : Result DomainName ParseError) (old new : S) (state : T)
          (reply : Reply) → is_in old state → LooksUpHost settings now asks address name old reply new
          → LeadsAlong new (λ after. LooksUpHost settings now others address name state reply after)
      looks_up_host-alike address name old new state reply alike h =
          unless_memory-alike (AnswersHost settings now asks (is_tried_as_name settings name) address name old reply new)
          (λ after. AnswersHost settings now others (is_tried_as_name settings name) address name state reply after)
          old state reply new alike
          (λ answers. answers_host-alike (is_tried_as_name settings name) address name old new state reply alike answers) h

-- ---- resolvers over handles that are alike

-- what one handle is asked, the other is asked as well
abbrev pub Carries : {H S : Type 0} → (H → S → Type 0) → Behavior H → Behavior S → Type 0
Carries {H} {S} is_in gives others =
    (old new : H) (state : S) (request : DnsRequest) (now : ℕ) (outcome : Outcome) → is_in old state
    → gives old request now outcome new
    → (after : S) × is_in new after × others state request now outcome after

module _ {H S : Type 0} (is_in : H → S → Type 0) (gives : Behavior H) (others : Behavior S)
    (carries : Carries is_in gives others) where
  led-alike : (options : DnsRequestOptions) (now : ℕ) (old : H) (state : S) (asks : List Ask) (new : H) → is_in old state
      → Led gives options now old asks new → LeadsAlong is_in new (λ after. Led others options now state asks after)
  led-alike options now old state [] new alike h = stays is_in (λ after. after ≡ state) old new state alike h refl
  led-alike options now old state (ask ∷ asks) new alike h =
      let step = carries old h.0 state (request_for ask.question options) now ask.outcome alike h.1 in
      let rest = led-alike options now h.0 step.0 asks new step.1 h.2 in
      (rest.0, rest.1, (step.0, step.2, rest.2))

  -- clients
  abbrev AlikeClients : CachingClient H → CachingClient S → Type 0
  AlikeClients client other = AreAlikeClients is_in client other

  abbrev ByHandle : DnsRequestOptions → ℕ → CachingClient H → Query → Reply → CachingClient H → Type 0
  ByHandle options now old q reply new = Answers gives options now old q reply new

  abbrev ByOther : DnsRequestOptions → ℕ → CachingClient S → Query → Reply → CachingClient S → Type 0
  ByOther options now old q reply new = Answers others options now old q reply new

  looks-alike : (options : DnsRequestOptions) (now : ℕ) (old : CachingClient H) (state : CachingClient S) (q : Query)
      (asks : List Ask) (reply : Reply) (cache : CacheContent) → AlikeClients old state
      → Looks (lookup_settings old options) now 0 [] old.cache q asks reply cache
      → Looks (lookup_settings state options) now 0 [] state.cache q asks reply cache
  looks-alike options now old state q asks reply cache alike h =
      let by_cache : Looks (lookup_settings old options) now 0 [] state.cache q asks reply cache =
      subst (λ (c : CacheContent). Looks (lookup_settings old options) now 0 [] c q asks reply cache) (sym alike.cache) h in
      subst (λ (aliases : Bool). Looks (record (lookup_settings old options) { preserve_intermediates = aliases }) now 0 []
      state.cache q asks reply cache) (sym alike.aliases) by_cache

  answers-alike : (options : DnsRequestOptions) (now : ℕ)
      → CarriesLookups AlikeClients (ByHandle options now) (ByOther options now)
  answers-alike options now old new state q reply alike h =
      let led = led-alike options now old.handle state.handle h.asks new.handle alike.handle h.led in (
        record state { handle = led.0; cache = new.cache; preserve_intermediates = new.preserve_intermediates },
        record { handle = led.1; cache = refl; aliases = refl },
        record {
          asks = h.asks;
          led = led.2;
          looks = looks-alike options now old state q h.asks reply new.cache alike h.looks;
          few = h.few;
          settings = h.settings ∙ sym alike.aliases;
        },
      )

  -- a lookup of a name is carried along
  pub resolves-name-alike : (now : ℕ) (name : Result DomainName ParseError) (kind : RecordType) (old new : Resolver H)
      (reply : Reply) (state : Resolver S) → AreAlike is_in old state → ResolvesName gives now name kind old reply new
      → (after : Resolver S) × AreAlike is_in new after × ResolvesName others now name kind state reply after
  resolves-name-alike now name kind old new reply state alike h =
      let options = request_options old.settings.options in
      let led = looks_up-alike AlikeClients now (ByHandle options now) (ByOther options now) (answers-alike options now)
      old.settings
      name kind old.client new.client state.client reply alike.client h.lookup in (
        record state { settings = new.settings; client = led.0 },
        record { settings = refl; client = led.1 },
        record {
          lookup = subst (λ (settings : Settings). LooksUp settings now (ByOther (request_options settings.options) now) name kind
              state.client reply led.0) (sym alike.settings) led.2;
          settings = h.settings ∙ sym alike.settings;
        },
      )

  -- a lookup of a host is carried along
  pub resolves-host-alike : (now : ℕ) (is_ip : Option IpAddr → Type 0) (name : Result DomainName ParseError)
      (old new : Resolver H) (reply : Reply) (state : Resolver S) → AreAlike is_in old state
      → ResolvesHost gives now is_ip name old reply new
      → (after : Resolver S) × AreAlike is_in new after × ResolvesHost others now is_ip name state reply after
  resolves-host-alike now is_ip name old new reply state alike h =
      let options = request_options old.settings.options in
      let led = looks_up_host-alike AlikeClients now (ByHandle options now) (ByOther options now) (answers-alike options now)
      old.settings
      h.address name old.client new.client state.client reply alike.client h.lookup in (
        record state { settings = new.settings; client = led.0 },
        record { settings = refl; client = led.1 },
        record {
          address = h.address;
          is_address = h.is_address;
          lookup = subst (λ (settings : Settings). LooksUpHost settings now (ByOther (request_options settings.options) now)
              h.address name state.client reply led.0) (sym alike.settings) led.2;
          settings = h.settings ∙ sym alike.settings;
        },
      )

  -- ---- events

  -- the cache of a resolver without the entries for a lookup
  abbrev Cleared : Settings → DomainName → RecordType → CacheContent → CacheContent
  Cleared settings name kind cache = record cache { entries = cleared_lookup settings (Ok name) kind cache.entries }

  clears-alike : (name : DomainName) (kind : RecordType) (old new : Resolver H) (done : Result (Unit {0}) NetError)
      (state : Resolver S)
      → AreAlike is_in old state → Clears name kind old done new
      → (after : Resolver S) × AreAlike is_in new after × Clears name kind state done after
  clears-alike name kind old new (Ok done) state alike h =
      let cache : Cleared state.settings name kind state.client.cache ≡ Cleared old.settings name kind old.client.cache =
      ap (λ (settings : Settings). Cleared settings name kind state.client.cache) alike.settings
      ∙ ap (λ (cache : CacheContent). Cleared old.settings name kind cache) alike.client.cache in
      let after : Resolver S = record state {
        client = with_entries state.client (cleared_lookup state.settings (Ok name) kind state.client.cache.entries);
      } in
      let before = cleared_lookup old.settings (Ok name) kind old.client.cache.entries in
      let cleared : AreAlike is_in (record old { client = with_entries old.client before }) after =
      record {
        settings = alike.settings;
        client = record { handle = alike.client.handle; cache = cache; aliases = alike.client.aliases };
      } in
      (after, subst (λ (resolver : Resolver H). AreAlike is_in resolver after) (sym h) cleared, refl)
  clears-alike name kind old new (Err errors.Memory) state alike h =
      (state, subst (λ (resolver : Resolver H). AreAlike is_in resolver state) (sym h) alike, refl)
  clears-alike name kind old new (Err (errors.Dns e)) state alike h = absurd h
  clears-alike name kind old new (Err (errors.Proto e)) state alike h = absurd h
  clears-alike name kind old new (Err (errors.Message e)) state alike h = absurd h
  clears-alike name kind old new (Err (errors.Link e)) state alike h = absurd h
  clears-alike name kind old new (Err errors.Unsupported) state alike h = absurd h

-- what a handle does with an update
abbrev pub Sending : Type 0 → Type 1
Sending H = H → Message → Result ResponseCode NetError → H → Type 0

-- an update that one handle sends, the other sends as well
abbrev pub CarriesUpdates : {H S : Type 0} → (H → S → Type 0) → Sending H → Sending S → Type 0
CarriesUpdates {H} {S} is_in sends others =
    (old new : H) (state : S) (update : Message) (reply : Result ResponseCode NetError) → is_in old state → IsUpdate update
    → sends old update reply new → (after : S) × is_in new after × others state update reply after

module _ {H S : Type 0} (is_in : H → S → Type 0) (gives : Behavior H) (others : Behavior S) (sends : Sending H)
    (other_sends : Sending S) (carries : Carries is_in gives others) (carries_updates : CarriesUpdates is_in sends other_sends) where
  -- an update is carried along
  updates-alike : (update : Message) (old new : Resolver H) (reply : Result ResponseCode NetError) (state : Resolver S)
      → AreAlike is_in old state → Updates sends update old reply new
      → (after : Resolver S) × AreAlike is_in new after × Updates other_sends update state reply after
  updates-alike update old new reply state alike h =
      let led = carries_updates old.client.handle new.client.handle state.client.handle update reply alike.client.handle h.sound
      h.sent in
      let after : Resolver S = with_handle state led.0 in
      let same : AreAlike is_in (with_handle old new.client.handle) after = record {
        settings = alike.settings;
        client = record { handle = led.1; cache = alike.client.cache; aliases = alike.client.aliases };
      } in (
        after,
        subst (λ (resolver : Resolver H). AreAlike is_in resolver after) (sym h.rest) same,
        record { sound = h.sound; sent = led.2; rest = refl },
      )

  -- the reply to an event is carried along
  pub replies-alike : (old new : Resolver H) (at : ℕ) (action : Action) (reply : EventReply) (state : Resolver S) → AreAlike is_in old state
      → Replies gives sends old at action reply new
      → (after : Resolver S) × AreAlike is_in new after × Replies others other_sends state at action reply after
  replies-alike old new at (actions.Lookup name kind) (replies.Lookup found) state alike h =
      resolves-name-alike is_in gives others carries at (Ok name) kind old new found state alike h
  replies-alike old new at (actions.LookupIp host) (replies.LookupIp found) state alike h =
      resolves-host-alike is_in gives others carries at (IsTextOf (string_bytes host)) (name_of_text (string_bytes host)) old new found state alike h
  replies-alike old new at (actions.Clear name kind) (replies.Cleared done) state alike h =
      clears-alike is_in gives others carries name kind old new done state alike h
  replies-alike old new at actions.ClearAll (replies.Cleared done) state alike h =
      let after : Resolver S = record state { client = with_entries state.client [] } in
      let cleared : AreAlike is_in (record old { client = with_entries old.client [] }) after = record {
        settings = alike.settings;
        client = record {
          handle = alike.client.handle;
          cache = ap (λ (cache : CacheContent). record cache { entries = [] }) alike.client.cache;
          aliases = alike.client.aliases;
        };
      } in
      (after, subst (λ (resolver : Resolver H). AreAlike is_in resolver after) (sym h.1) cleared, (h.0, refl))
  replies-alike old new at (actions.Update update) (replies.Update reply) state alike h =
      updates-alike update.value old new reply state alike h
  replies-alike old new at action reply state alike h = absurd h

-- ---- what every question and update keeps

-- a handle keeps this, whatever it is asked
abbrev pub Keeps : {H : Type 0} → (H → Type 0) → Behavior H → Type 0
Keeps {H} holds gives =
    (old new : H) (request : DnsRequest) (now : ℕ) (outcome : Outcome) → holds old → gives old request now outcome new → holds new

-- a handle keeps this, whatever update it sends
abbrev pub KeepsUpdates : {H : Type 0} → (H → Type 0) → Sending H → Type 0
KeepsUpdates {H} holds sends =
    (old new : H) (update : Message) (reply : Result ResponseCode NetError) → holds old → IsUpdate update → sends old update reply new
    → holds new

module _ {H : Type 0} (holds : H → Type 0) (gives : Behavior H) (sends : Sending H) (keeps : Keeps holds gives)
    (keeps_updates : KeepsUpdates holds sends) where
  -- a handle without states: all that is known of it is what holds
  abbrev IsHeld : H → Unit {0} → Type 0
  IsHeld handle none = holds handle

  abbrev Anything : Unit {0} → DnsRequest → ℕ → Outcome → Unit {0} → Type 0
  Anything old request now outcome new = Unit {0}

  abbrev AnyUpdate : Unit {0} → Message → Result ResponseCode NetError → Unit {0} → Type 0
  AnyUpdate old update reply new = Unit {0}

  held : Carries IsHeld gives Anything
  held old new none request now outcome holds_before given = (tt, keeps old new request now outcome holds_before given, tt)

  held_updates : CarriesUpdates IsHeld sends AnyUpdate
  held_updates old new none update reply holds_before sound sent =
      (tt, keeps_updates old new update reply holds_before sound sent, tt)

  abbrev without_state : Resolver H → Resolver (Unit {0})
  without_state resolver = record {
    settings = resolver.settings;
    client = record {
      handle = tt;
      cache = resolver.client.cache;
      preserve_intermediates = resolver.client.preserve_intermediates;
      alloc = resolver.client.alloc;
    };
    alloc = resolver.alloc;
  }

  is-alike : (resolver : Resolver H) → holds resolver.client.handle → AreAlike IsHeld resolver (without_state resolver)
  is-alike resolver h = record {
    settings = refl;
    client = record { handle = h; cache = refl; aliases = refl };
  }

  -- an event keeps it
  pub replies-keep : (old new : Resolver H) (at : ℕ) (action : Action) (reply : EventReply) → holds old.client.handle
      → Replies gives sends old at action reply new → holds new.client.handle
  replies-keep old new at action reply h resolves =
      let led = replies-alike IsHeld gives Anything sends AnyUpdate held held_updates old new at action reply (without_state old)
      (is-alike old h) resolves in
      led.1.client.handle
