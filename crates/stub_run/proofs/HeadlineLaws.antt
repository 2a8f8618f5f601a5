-- Event by event, what lookups return has an origin among answers that stood; so a claim that such origins bear out holds of it.
use Rattle.std.proofs.Common.{◌≡◌, ℕ, ◌≤◌, ◌++◌, List, [], ◌∷◌, Option, Some, None, Result, Ok, Err, true, false, All, Contains, refl, sym, ap, subst, ◌∙◌, inl, inr, arith}
use Rattle.std.specs.Prelude.{string_bytes}
use Rattle.std.specs.declared.net.ip_addr.IpAddr.{IpAddr}
use Rattle.std.proofs.lemmas.Bool.{true≢false}
use Rattle.std.proofs.lemmas.List.{append-nil}
use Rattle.std.proofs.lemmas.List.Elements.{All-append, All-cons, All-contains, All-map, All-nil, All-weaker, Contains-append_left, Contains-append_right}
use Rattle.dns_wire.specs.codes.RecordType.{type_number, type_of}
use Rattle.dns_wire.specs.declared.codes.record_type.RecordType.{RecordType}
use Rattle.dns_wire.specs.declared.codes.record_type.RecordType.TheVariants as types
use Rattle.dns_names.specs.Name.{DomainName}
use Rattle.dns_names.specs.Parse.{name_of_text}
use Rattle.dns_names.specs.declared.error.ParseError.{ParseError}
use Rattle.dns_text.specs.Address.{IsTextOf}
use Rattle.dns_records.specs.Record.{Record}
use Rattle.dns_messages.specs.Response.{has_type}
use Rattle.dns_messages.specs.declared.message.Message.{Message}
use Rattle.dns_messages.specs.declared.query.Query.{Query}
use Rattle.dns_messages.specs.declared.response_code.ResponseCode.{ResponseCode}
use Rattle.dns_zone.specs.Answer.{IsChain, answer}
use Rattle.dns_zone.specs.Rows.{ZoneContent}
use Rattle.stub_config.specs.declared.strategy.LookupIpStrategy.{LookupIpStrategy}
use Rattle.stub_config.specs.declared.strategy.LookupIpStrategy.TheVariants.{Ipv4Only, Ipv6Only}
use Rattle.stub_lookup.specs.declared.error.NetError.{NetError}
use Rattle.stub_lookup.specs.declared.error.NetError.TheVariants as net
use Rattle.stub_hosts.specs.Hosts.{HostsContent, question}
use Rattle.stub_cache.specs.Cache.{CacheContent}
use Rattle.stub_cache.specs.Ttl.{TtlConfigContent}
use Rattle.stub_client.specs.Handle.{Ask}
use Rattle.stub_client.specs.Laws.{RecordClaim}
use Rattle.stub_client.specs.Looks.{Reply}
use Rattle.stub_client.specs.Origins.{Asked, Comes, asked_at}
use Rattle.stub_client.specs.SpecialNames.{special_answer}
use Rattle.stub_client.specs.declared.special_names.SpecialAnswer.TheVariants.{Ordinary}
use Rattle.stub_core.specs.Origins.{AreTyped, CacheIsFrom, ComesFrom, EachAnswer, HostIsFrom, IsAnswer, NameIsFrom, first_of, from_hosts, from_literal, from_question, is_address_record, literal_records, names_of}
use Rattle.stub_core.specs.Strategies.{kinds_of}
use Rattle.stub_core.specs.Resolver.{ResolvesHost, ResolvesName, is_tried_as_name, known_type, request_options, with_handle}
use Rattle.stub_core.specs.declared.resolver.settings.Settings.{Settings}
use Rattle.stub_core.proofs.OriginsLaws.{Brings, from-cleared, from-empty, from-still, host-comes, name-comes}
use Rattle.stub_link.specs.AskState.{AskState, UpdateZone, begin, begin_with_update, end}
use Rattle.stub_link.specs.History.{Occasion, Past, past_after_occasion, past_of}
use Rattle.stub_link.specs.LinkState.{LinkState, Version}
use Rattle.stub_laws.specs.history.Answered.{AreOrdinary, AreZones, IsAnsweredBy, is_plain}
use Rattle.stub_laws.specs.history.Faithful.{HasNoReuse, IsFaithful, KeepsStanding, StaysFaithful, StaysFaithfulUnlessOut}
use Rattle.stub_laws.proofs.AskedTypeLaws.{asked-types}
use Rattle.stub_laws.proofs.EventLaws.{begin-faithful, begin-update-faithful, end-faithful}
use Rattle.stub_laws.proofs.FaithfulLaws.{update-stays}
use Rattle.stub_laws.proofs.LaterLaws.{answered-still}
use Rattle.stub_laws.proofs.LedLaws.{led-holds}
use Rattle.stub_laws.proofs.ServeLaws.{UpdatesKeepZones}
use Rattle.stub_link.specs.declared.link.script.Script.{Script}
use Rattle.stub_run.specs.Event.{update_of}
use Rattle.stub_run.specs.AtReplies.{HoldsAtReplies, versions_in}
use Rattle.stub_run.specs.Headline.{HistoryClaim, HoldsOfEvent, HoldsOfEvents}
use Rattle.stub_run.specs.History.{MakePasts}
use Rattle.stub_run.specs.Run.{Clears, InOrder, RepliesByZone, RunState, Runs, Step, Updates, asks_of, begin_asks, begin_event, end_event}
use Rattle.stub_run.specs.declared.event.Action.{Action}
use Rattle.stub_run.specs.declared.event.Action.TheVariants as actions
use Rattle.stub_run.specs.declared.event.Event.{Event}
use Rattle.stub_run.specs.declared.report.EventReply.{EventReply}
use Rattle.stub_run.specs.declared.report.EventReply.TheVariants as replies
use Rattle.stub_run.specs.declared.report.EventReport.{EventReport}
use Rattle.stub_run.proofs.Growing.{runs-extend}
use Rattle.stub_run.proofs.Happening.{AsksServer}
use Rattle.stub_run.proofs.RunLaws.{mid-memory}

-- ---- a claim that another one bears out

module _ {C D : RecordClaim} {hosts : HostsContent} {now : ℕ} {kinds : List RecordType} {names hosted : List DomainName}
    {literals : List Record}
    (bears : (name : DomainName) (kind : RecordType) (r : Record) → Contains kinds kind → C (question name kind) now r
    → D (question name kind) now r) where
  pub answer-bears : {r : Record} → IsAnswer C hosts now kinds names hosted literals r → IsAnswer D hosts now kinds names hosted literals r
  answer-bears (from_question name kind r there among has claim) =
      from_question name kind r there among has (bears name kind r among claim)
  answer-bears (from_hosts name kind lookup r there among is has) = from_hosts name kind lookup r there among is has
  answer-bears (from_literal r there) = from_literal r there

each-answer : (P Q : Record → Type 0) → ((r : Record) → P r → Q r) → (reply : Reply) → EachAnswer P reply → EachAnswer Q reply
each-answer P Q f (Ok lookup) h = All-weaker P Q f lookup.message.answers h
each-answer P Q f (Err error) h = h

only-one : {X : Type 0} (x y : X) → Contains (x ∷ []) y → y ≡ x
only-one {X} x y c =
    sym (All-contains (λ (z : X). x ≡ z) (x ∷ []) y (All-cons (λ (z : X). x ≡ z) x [] refl (All-nil (λ (z : X). x ≡ z))) c)

-- each answer of the asked type is one
abbrev OfName : RecordClaim → Settings → ℕ → Result DomainName ParseError → RecordType → Record → Type 0
OfName Claim settings now name kind r =
    has_type (known_type kind) r ≡ true
    → IsAnswer Claim settings.hosts now (known_type kind ∷ []) (names_of settings name) (first_of (names_of settings name)) [] r

name-bears : (C D : RecordClaim) (settings : Settings) (now : ℕ) (name : Result DomainName ParseError) (kind : RecordType) (reply : Reply)
    → ((owner : DomainName) (r : Record) → C (question owner (known_type kind)) now r → D (question owner (known_type kind)) now r)
    → NameIsFrom C settings now name kind reply → NameIsFrom D settings now name kind reply
name-bears C D settings now name kind reply f h =
    each-answer (OfName C settings now name kind) (OfName D settings now name kind) each reply h
  where
    bears : (owner : DomainName) (k : RecordType) (r : Record) → Contains (known_type kind ∷ []) k → C (question owner k) now r
        → D (question owner k) now r
    bears owner k r among claim =
        let same : k ≡ known_type kind = only-one (known_type kind) k among in
        subst (λ (t : RecordType). D (question owner t) now r) (sym same)
        (f owner r (subst (λ (t : RecordType). C (question owner t) now r) same claim))

    each : (r : Record) → OfName C settings now name kind r → OfName D settings now name kind r
    each r from has = answer-bears bears (from has)

-- the types of addresses are plain
abbrev IsPlain : RecordType → Type 0
IsPlain kind = is_plain kind ≡ true

all-plain : (strategy : LookupIpStrategy) → All IsPlain (kinds_of strategy)
all-plain Ipv4Only = All-cons IsPlain types.A [] refl (All-nil IsPlain)
all-plain Ipv6Only = All-cons IsPlain types.AAAA [] refl (All-nil IsPlain)
all-plain both = All-cons IsPlain types.A (types.AAAA ∷ []) refl (All-cons IsPlain types.AAAA [] refl (All-nil IsPlain))

-- one of the types of addresses that a strategy asks for
is-family : (strategy : LookupIpStrategy) (kind : RecordType) → Contains (kinds_of strategy) kind → is_plain kind ≡ true
is-family strategy kind c = All-contains IsPlain (kinds_of strategy) kind (all-plain strategy) c

-- each address is one
abbrev OfHost : RecordClaim → Settings → ℕ → Option IpAddr → Result DomainName ParseError → Record → Type 0
OfHost Claim settings now address name r =
    is_address_record r ≡ true
    → IsAnswer Claim settings.hosts now (kinds_of settings.options.ip_strategy) (names_of settings name) (names_of settings name)
    (literal_records (is_tried_as_name settings name) address name now) r

host-bears : (C D : RecordClaim) (settings : Settings) (now : ℕ) (address : Option IpAddr) (name : Result DomainName ParseError)
    (reply : Reply)
    → ((owner : DomainName) (kind : RecordType) (r : Record) → is_plain kind ≡ true → C (question owner kind) now r
    → D (question owner kind) now r)
    → HostIsFrom C settings now address name reply → HostIsFrom D settings now address name reply
host-bears C D settings now address name reply f h =
    each-answer (OfHost C settings now address name) (OfHost D settings now address name) each reply h
  where
    bears : (owner : DomainName) (k : RecordType) (r : Record) → Contains (kinds_of settings.options.ip_strategy) k
        → C (question owner k) now r → D (question owner k) now r
    bears owner k r among claim = f owner k r (is-family settings.options.ip_strategy k among) claim

    each : (r : Record) → OfHost C settings now address name r → OfHost D settings now address name r
    each r from has = answer-bears bears (from has)

-- ---- what was asked at one moment

asked-early : (now t : ℕ) (asks : List Ask) → now ≤ t → All (λ (a : Asked). a.moment ≤ t) (asked_at now asks)
asked-early now t [] h = All-nil (λ (a : Asked). a.moment ≤ t)
asked-early now t (ask ∷ asks) h =
    All-cons (λ (a : Asked). a.moment ≤ t) (record { moment = now; ask = ask }) (asked_at now asks) h (asked-early now t asks h)

asked-ordinary : (now : ℕ) (asks : List Ask) → All (λ (ask : Ask). special_answer ask.question ≡ Ordinary) asks → AreOrdinary (asked_at now asks)
asked-ordinary now asks h =
    All-map (λ (a : Asked). special_answer a.ask.question ≡ Ordinary) (λ (ask : Ask). record { moment = now; ask = ask }) asks h

answered-later : (origin : DomainName) (old new : LinkState) (asked : List Asked) → KeepsStanding old new
    → All (λ (a : Asked). a.moment ≤ old.moment) asked → All (IsAnsweredBy origin old.history) asked
    → All (IsAnsweredBy origin new.history) asked
answered-later origin old new asked stands early answered =
    λ k d less. answered-still origin old new _ (early k d less) stands (answered k d less)

-- ---- what holds of a state

module _ (keep : UpdatesKeepZones) (chains : (zone : ZoneContent) (q : Query) → IsChain zone.rows q.query_type q.name (answer zone q).answers)
    (round : (number : ℕ) → type_number (type_of number) ≡ number) (origin : DomainName) (config : TtlConfigContent)
    (aliases : _) (settings : Settings) (Carries : Query → Message → Record → Type 0) (Leads : Query → Message → Type 0)
    (brings : Brings config aliases (λ asked. Comes Carries Leads asked)) where
  -- the origin of a record among questions
  abbrev Brought : List Asked → RecordClaim
  Brought asked = Comes Carries Leads asked

  -- A state after these questions: all outcomes hold answers that stood, and they brought what the cache has.
  pub record Has (asked : List Asked) (state : RunState) : Type 0 where
    pub faithful : IsFaithful origin (asks_of state)
    pub answered : All (IsAnsweredBy origin (asks_of state).link.history) asked
    pub early : All (λ (a : Asked). a.moment ≤ (asks_of state).link.moment) asked
    pub ordinary : AreOrdinary asked
    pub cache : CacheIsFrom Brought asked (asks_of state).link.moment state.client.cache
    pub config_is : state.client.cache.config ≡ config
    pub settings_is : state.settings ≡ settings
    pub aliases_is : state.client.preserve_intermediates ≡ aliases

  -- the handle has come to other asks, and what stood still stands
  has-after : (asked : List Asked) (old : RunState) (asks : AskState) → Has asked old → StaysFaithful origin (asks_of old) asks
      → Has asked (with_handle old asks)
  has-after asked old asks h s = record {
    faithful = s.faithful;
    answered = answered-later origin (asks_of old).link asks.link asked s.stands h.early h.answered;
    early = subst (λ (t : ℕ). All (λ (a : Asked). a.moment ≤ t) asked) (sym s.moment_is) h.early;
    ordinary = h.ordinary;
    cache = subst (λ (t : ℕ). CacheIsFrom Brought asked t old.client.cache) (sym s.moment_is) h.cache;
    config_is = h.config_is;
    settings_is = h.settings_is;
    aliases_is = h.aliases_is;
  }

  -- ---- an event begins

  has-begun : (asked : List Asked) (moment : ℕ) (old : RunState) (asks : AskState) → Has asked old → IsFaithful origin asks
      → asks.link.history ≡ (asks_of old).link.history → asks.link.moment ≡ moment → (asks_of old).link.moment ≤ moment
      → Has asked (with_handle old asks)
  has-begun asked moment old asks h faithful same at less = record {
    faithful = faithful;
    answered = subst (λ (vs : List Version). All (IsAnsweredBy origin vs) asked) (sym same) h.answered;
    early = All-weaker (λ (a : Asked). a.moment ≤ (asks_of old).link.moment) (λ (a : Asked). a.moment ≤ asks.link.moment)
        (λ a before. omega (arith, at)) asked h.early;
    ordinary = h.ordinary;
    cache = from-still Carries Leads asked asked (asks_of old).link.moment asks.link.moment old.client.cache (λ a there. there)
        (omega (arith, at)) h.cache;
    config_is = h.config_is;
    settings_is = h.settings_is;
    aliases_is = h.aliases_is;
  }

  begun : (asked : List Asked) (update : Option Message) (at : ℕ) (script : Script) (old : RunState) → Has asked old → (asks_of old).link.moment ≤ at
      → Has asked (with_handle old (begin_asks update at script (asks_of old)))
      × ((begin_asks update at script (asks_of old)).link.moment ≡ at)
  begun asked None at script old h less = (
    has-begun asked at old (begin at script (asks_of old)) h (begin-faithful origin at script (asks_of old) less h.faithful) refl refl less,
    refl,
  )
  begun asked (Some update) at script old h less = (
    has-begun asked at old (begin_with_update at script (asks_of old)) h
        (begin-update-faithful origin at script (asks_of old) less h.faithful) refl refl less,
    refl,
  )

  -- ---- a lookup

  -- The questions of a lookup have answers that stood, and have brought what is kept and returned.
  pub record HasAsked (asked : List Asked) (old : RunState) (mid : RunState) (Answers : List Asked → Type 0) : Type 0 where
    pub asks : List Asked
    pub has : Has (asked ++ asks) mid
    pub moment_is : (asks_of mid).link.moment ≡ (asks_of old).link.moment
    pub answers : Answers (asked ++ asks)

  brings-here : (old : RunState) → old.client.cache.config ≡ config → old.client.preserve_intermediates ≡ aliases
      → Brings old.client.cache.config old.client.preserve_intermediates Brought
  brings-here old c a =
      subst (λ (t : TtlConfigContent). Brings t old.client.preserve_intermediates Brought) (sym c)
      (subst (λ (b : _). Brings config b Brought) (sym a) brings)

  has-looked : (asked : List Asked) (now : ℕ) (old mid : RunState) (Answers : List Asked → Type 0) (later : List (ℕ × Query))
      → Has asked old → (asks_of old).link.moment ≡ now → ComesFrom Brought AsksServer now old mid Answers
      → mid.settings ≡ old.settings → (asks_of mid).link.out_of_memory ≡ false → HasNoReuse ((asks_of mid).sent ++ later)
      → HasAsked asked old mid Answers
  has-looked asked now old mid Answers later h at comes same memory once =
      let held = led-holds (request_options old.settings.options) now keep origin (asks_of old) (asks_of mid) comes.asks later h.faithful at
      comes.led memory once in
      let asks : List Asked = asked_at now comes.asks in
      let all : List Asked = asked ++ asks in
      let at-mid : (asks_of mid).link.moment ≡ now = held.0.moment_is ∙ at in
      let before : CacheIsFrom Brought all now old.client.cache =
      from-still Carries Leads asked all (asks_of old).link.moment now old.client.cache (λ a there. Contains-append_left asked asks a there)
      (omega (arith, at)) h.cache in
      let after = comes.comes all (λ a there. Contains-append_right asked asks a there) before in
      record {
        asks = asks;
        has = record {
          faithful = held.0.faithful;
          answered = All-append (IsAnsweredBy origin (asks_of mid).link.history) asked asks
              (answered-later origin (asks_of old).link (asks_of mid).link asked held.0.stands h.early h.answered) held.1;
          early = All-append (λ (a : Asked). a.moment ≤ (asks_of mid).link.moment) asked asks
              (subst (λ (t : ℕ). All (λ (a : Asked). a.moment ≤ t) asked) (sym held.0.moment_is) h.early)
              (asked-early now (asks_of mid).link.moment comes.asks (omega (arith, at-mid)));
          ordinary = All-append (λ (a : Asked). special_answer a.ask.question ≡ Ordinary) asked asks h.ordinary
              (asked-ordinary now comes.asks comes.ordinary);
          cache = subst (λ (t : ℕ). CacheIsFrom Brought all t mid.client.cache) (sym at-mid) after.0;
          config_is = comes.config ∙ h.config_is;
          settings_is = same ∙ h.settings_is;
          aliases_is = comes.aliases ∙ h.aliases_is;
        };
        moment_is = held.0.moment_is;
        answers = after.1;
      }

  -- ---- the reply to an event

  -- what an event makes of a state, with what holds of its reply for a claim that origins bear out
  abbrev pub BearsOut : HistoryClaim → List Asked → ℕ → Action → EventReply → Type 0
  BearsOut Claim asked at action reply =
      (history : List Version) → AreZones origin history → All (IsAnsweredBy origin history) asked
      → ((q : Query) (now : ℕ) (r : Record) → is_plain q.query_type ≡ true → Brought asked q now r → Claim history q now r)
      → HoldsOfEvent (Claim history) settings at action reply

  pub record HasReplied (Claim : HistoryClaim) (asked : List Asked) (at : ℕ) (action : Action) (reply : EventReply) (old mid : RunState) : Type 0 where
    pub asks : List Asked
    pub has : Has (asked ++ asks) mid
    pub moment_is : (asks_of mid).link.moment ≡ (asks_of old).link.moment
    pub bears : BearsOut Claim (asked ++ asks) at action reply

  -- nothing was asked
  not-asked : (Claim : HistoryClaim) (asked : List Asked) (at : ℕ) (action : Action) (reply : EventReply) (old mid : RunState) → Has asked mid
      → (asks_of mid).link.moment ≡ (asks_of old).link.moment → BearsOut Claim asked at action reply → HasReplied Claim asked at action reply old mid
  not-asked Claim asked at action reply old mid h same bears = record {
    asks = [];
    has = subst (λ (all : List Asked). Has all mid) (sym (append-nil asked)) h;
    moment_is = same;
    bears = subst (λ (all : List Asked). BearsOut Claim all at action reply) (sym (append-nil asked)) bears;
  }

  looked-up : (Claim : HistoryClaim) (asked : List Asked) (at : ℕ) (name : DomainName) (kind : RecordType) (found : Reply)
      (old mid : RunState) (later : List (ℕ × Query)) → Has asked old → (asks_of old).link.moment ≡ at
      → ResolvesName AsksServer at (Ok name) kind old found mid → (asks_of mid).link.out_of_memory ≡ false
      → HasNoReuse ((asks_of mid).sent ++ later)
      → HasReplied Claim asked at (actions.Lookup name kind) (replies.Lookup found) old mid
  looked-up Claim asked at name kind found old mid later h moment resolves memory once =
      let looked = has-looked asked at old mid
      (λ history. NameIsFrom (Brought history) old.settings at (Ok name) kind found) later h moment
      (name-comes AsksServer at old mid Brought (brings-here old h.config_is h.aliases_is) round (Ok name) kind found resolves.lookup)
      resolves.settings memory once in
      record {
        asks = looked.asks;
        has = looked.has;
        moment_is = looked.moment_is;
        bears = λ history zones answered claims plain.
            name-bears (Brought (asked ++ looked.asks)) (Claim history) settings at (Ok name) kind found
            (λ owner r brought. claims (question owner (known_type kind)) at r plain brought)
            (subst (λ (s : Settings). NameIsFrom (Brought (asked ++ looked.asks)) s at (Ok name) kind found) h.settings_is looked.answers);
      }

  looked-up-host : (Claim : HistoryClaim) (asked : List Asked) (at : ℕ) (host : _) (found : Reply)
      (old mid : RunState) (later : List (ℕ × Query)) → Has asked old → (asks_of old).link.moment ≡ at
      → ResolvesHost AsksServer at (IsTextOf (string_bytes host)) (name_of_text (string_bytes host)) old found mid
      → (asks_of mid).link.out_of_memory ≡ false → HasNoReuse ((asks_of mid).sent ++ later)
      → HasReplied Claim asked at (actions.LookupIp host) (replies.LookupIp found) old mid
  looked-up-host Claim asked at host found old mid later h moment resolves memory once =
      let name = name_of_text (string_bytes host) in
      let looked = has-looked asked at old mid
      (λ history. AreTyped history → HostIsFrom (Brought history) old.settings at resolves.address name found) later h moment
      (host-comes AsksServer at old mid Brought (brings-here old h.config_is h.aliases_is) round resolves.address name found resolves.lookup)
      resolves.settings memory once in
      record {
        asks = looked.asks;
        has = looked.has;
        moment_is = looked.moment_is;
        bears = λ history zones answered claims. (
          resolves.address,
          resolves.is_address,
          host-bears (Brought (asked ++ looked.asks)) (Claim history) settings at resolves.address name found
              (λ owner kind r plain brought. claims (question owner kind) at r plain brought)
              (subst (λ (s : Settings). HostIsFrom (Brought (asked ++ looked.asks)) s at resolves.address name found) h.settings_is
              (looked.answers (asked-types chains origin history zones (asked ++ looked.asks) answered))),
        );
      }

  -- other entries in the cache
  has-cleared : (asked : List Asked) (old mid : RunState) (cache : CacheContent) → Has asked old
      → CacheIsFrom Brought asked (asks_of old).link.moment cache → cache.config ≡ old.client.cache.config
      → mid ≡ record old { client = record old.client { cache = cache } } → Has asked mid
  has-cleared asked old mid cache h from same is =
      subst (Has asked) (sym is) (record {
        faithful = h.faithful;
        answered = h.answered;
        early = h.early;
        ordinary = h.ordinary;
        cache = from;
        config_is = same ∙ h.config_is;
        settings_is = h.settings_is;
        aliases_is = h.aliases_is;
      })

  cleared : (asked : List Asked) (name : DomainName) (kind : RecordType) (done : Result (Unit {0}) NetError) (old mid : RunState)
      → Has asked old → Clears name kind old done mid → Has asked mid × ((asks_of mid).link.moment ≡ (asks_of old).link.moment)
  cleared asked name kind (Ok done) old mid h clears = (
    has-cleared asked old mid _ h (from-cleared Brought asked (asks_of old).link.moment old.client.cache old.settings (Ok name) kind h.cache)
        refl clears,
    ap (λ (s : RunState). (asks_of s).link.moment) clears,
  )
  cleared asked name kind (Err net.Memory) old mid h clears =
      (subst (Has asked) (sym clears) h, ap (λ (s : RunState). (asks_of s).link.moment) clears)
  cleared asked name kind (Err (net.Dns e)) old mid h clears = absurd clears
  cleared asked name kind (Err (net.Proto e)) old mid h clears = absurd clears
  cleared asked name kind (Err (net.Message e)) old mid h clears = absurd clears
  cleared asked name kind (Err (net.Link e)) old mid h clears = absurd clears
  cleared asked name kind (Err net.Unsupported) old mid h clears = absurd clears

  updated : (asked : List Asked) (update : Message) (reply : Result ResponseCode NetError) (old mid : RunState) → Has asked old
      → Updates (λ asks update reply after. UpdateZone asks update reply after) update old reply mid
      → (asks_of mid).link.out_of_memory ≡ false → Has asked mid × ((asks_of mid).link.moment ≡ (asks_of old).link.moment)
  updated asked update reply old mid h updates memory =
      by (update-stays keep origin (asks_of old) h.faithful update updates.sound reply (asks_of mid) updates.sent)
    where
      by : StaysFaithfulUnlessOut origin (asks_of old) (asks_of mid)
          → Has asked mid × ((asks_of mid).link.moment ≡ (asks_of old).link.moment)
      by (inl out) = absurd (true≢false (sym out ∙ memory))
      by (inr stays) =
          (subst (Has asked) (sym updates.rest) (has-after asked old (asks_of mid) h stays), stays.moment_is)

  replied : (Claim : HistoryClaim) (asked : List Asked) (at : ℕ) (action : Action) (reply : EventReply) (old mid : RunState)
      (later : List (ℕ × Query)) → Has asked old → (asks_of old).link.moment ≡ at → RepliesByZone old at action reply mid
      → (asks_of mid).link.out_of_memory ≡ false → HasNoReuse ((asks_of mid).sent ++ later) → HasReplied Claim asked at action reply old mid
  replied Claim asked at (actions.Lookup name kind) (replies.Lookup found) old mid later h moment r memory once =
      looked-up Claim asked at name kind found old mid later h moment r memory once
  replied Claim asked at (actions.LookupIp host) (replies.LookupIp found) old mid later h moment r memory once =
      looked-up-host Claim asked at host found old mid later h moment r memory once
  replied Claim asked at (actions.Clear name kind) (replies.Cleared done) old mid later h moment r memory once =
      let c = cleared asked name kind done old mid h r in
      not-asked Claim asked at (actions.Clear name kind) (replies.Cleared done) old mid c.0 c.1 (λ history zones answered claims. tt)
  replied Claim asked at actions.ClearAll (replies.Cleared done) old mid later h moment r memory once =
      not-asked Claim asked at actions.ClearAll (replies.Cleared done) old mid
      (has-cleared asked old mid _ h (from-empty Brought asked (asks_of old).link.moment old.client.cache) refl r.1)
      (ap (λ (s : RunState). (asks_of s).link.moment) r.1) (λ history zones answered claims. tt)
  replied Claim asked at (actions.Update update) (replies.Update reply) old mid later h moment r memory once =
      let u = updated asked update.value reply old mid h r memory in
      not-asked Claim asked at (actions.Update update) (replies.Update reply) old mid u.0 u.1 (λ history zones answered claims. tt)
  replied Claim asked at action reply old mid later h moment r memory once = absurd r

  -- ---- one event

  -- what an event makes of a state: what holds of it, and of the reply
  pub record HasStepped (Claim : HistoryClaim) (asked : List Asked) (e : Event) (reply : EventReply) (mid new : RunState) : Type 0 where
    pub asks : List Asked
    pub has_replied : Has (asked ++ asks) mid
    pub has : Has (asked ++ asks) new
    pub moment_is : (asks_of new).link.moment ≡ e.at
    pub bears : BearsOut Claim (asked ++ asks) e.at e.action reply

  ended : (asked : List Asked) (moment : ℕ) (mid new : RunState) → Has asked mid → (asks_of mid).link.moment ≡ moment
      → new ≡ end_event mid → Has asked new × ((asks_of new).link.moment ≡ moment)
  ended asked moment mid new h at ends =
      let stays = end-faithful keep origin (asks_of mid) h.faithful in (
        subst (Has asked) (sym ends) (has-after asked mid (end (asks_of mid)) h stays),
        ap (λ (s : RunState). (asks_of s).link.moment) ends ∙ stays.moment_is ∙ at,
      )

  stepped : (Claim : HistoryClaim) (asked : List Asked) (e : Event) (report : EventReport) (old new : RunState)
      (later : List (ℕ × Query)) → Has asked old → (asks_of old).link.moment ≤ e.at → (step : Step old e report new)
      → HasNoReuse ((asks_of new).sent ++ later) → HasStepped Claim asked e report.reply step.mid new
  stepped Claim asked e report old new later h less step once =
      let b = begun asked (update_of e.action) e.at e.script old h less in
      let sent : (asks_of new).sent ≡ (asks_of step.mid).sent = ap (λ (s : RunState). (asks_of s).sent) step.ends in
      let r = replied Claim asked e.at e.action report.reply (begin_event e old) step.mid later b.0 b.1 step.replies
      (mid-memory old e report new step) (subst (λ (s : List (ℕ × Query)). HasNoReuse (s ++ later)) sent once) in
      let f = ended (asked ++ r.asks) e.at step.mid new r.has (r.moment_is ∙ b.1) step.ends in
      record { asks = r.asks; has_replied = r.has; has = f.0; moment_is = f.1; bears = r.bears }

  -- ---- all events

  module _ (Claim : HistoryClaim)
      (claims : (history : List Version) (asked : List Asked) → AreZones origin history → All (IsAnsweredBy origin history) asked
      → AreOrdinary asked → (q : Query) (now : ℕ) (r : Record) → is_plain q.query_type ≡ true → Brought asked q now r
      → Claim history q now r) where
    holds-first : (asked : List Asked) (past : Past) (o : Occasion) (e : Event) (reply : EventReply) (mid new : RunState)
        (s : HasStepped Claim asked e reply mid new) → past_of (asks_of new).link ≡ past_after_occasion past o
        → HoldsOfEvent (Claim (past_after_occasion past o).history) settings e.at e.action reply
    holds-first asked past o e reply mid new s past_is =
        let history : List Version = (past_after_occasion past o).history in
        let same : (asks_of new).link.history ≡ history = ap (λ (p : Past). p.history) past_is in
        let all : List Asked = asked ++ s.asks in
        let zones : AreZones origin history =
        subst (λ (vs : List Version). AreZones origin vs) same s.has.faithful.history.versions in
        let answered : All (IsAnsweredBy origin history) all =
        subst (λ (vs : List Version). All (IsAnsweredBy origin vs) all) same s.has.answered in
        s.bears history zones answered (claims history all zones answered s.has.ordinary)

    -- a claim holds of every reply, over the versions that the occasions of the events make
    pub runs-hold : (asked : List Asked) (past : Past) (first last : RunState) (events : List Event) (reports : List EventReport)
        (states : List RunState) (occasions : List Occasion) → Has asked first → InOrder (asks_of first).link.moment events
        → Runs first events reports states last → HasNoReuse (asks_of last).sent → MakePasts past states occasions
        → HoldsOfEvents Claim settings past events reports occasions
    runs-hold asked past first last [] [] [] [] h order runs once pasts = tt
    runs-hold asked past first last (e ∷ events) (report ∷ reports) (state ∷ states) (o ∷ occasions) h order runs once pasts =
        let more = runs-extend state last events reports states runs.1 in
        let s = stepped Claim asked e report first state more.0 h order.0 runs.0 (subst HasNoReuse more.1 once) in (
          holds-first asked past o e report.reply runs.0.mid state s pasts.0,
          runs-hold (asked ++ s.asks) (past_after_occasion past o) state last events reports states occasions s.has
              (subst (λ (t : ℕ). InOrder t events) (sym s.moment_is) order.2) runs.1 once pasts.1,
        )
    runs-hold asked past first last [] [] [] (o ∷ occasions) h order runs once pasts = absurd pasts
    runs-hold asked past first last [] [] (state ∷ states) occasions h order runs once pasts = absurd runs
    runs-hold asked past first last [] (report ∷ reports) states occasions h order runs once pasts = absurd runs
    runs-hold asked past first last (e ∷ events) [] states occasions h order runs once pasts = absurd runs
    runs-hold asked past first last (e ∷ events) (report ∷ reports) [] occasions h order runs once pasts = absurd runs
    runs-hold asked past first last (e ∷ events) (report ∷ reports) (state ∷ states) [] h order runs once pasts = absurd pasts

    -- a claim holds of the reply to an event, over the versions up to it
    holds-at-reply : (asked : List Asked) (e : Event) (reply : EventReply) (mid new : RunState) (s : HasStepped Claim asked e reply mid new)
        → HoldsOfEvent (Claim (versions_in mid)) settings e.at e.action reply
    holds-at-reply asked e reply mid new s =
        s.bears (versions_in mid) s.has_replied.faithful.history.versions s.has_replied.answered
        (claims (versions_in mid) (asked ++ s.asks) s.has_replied.faithful.history.versions s.has_replied.answered s.has_replied.ordinary)

    -- a claim holds of every reply, over the versions up to it
    pub replies-hold : (asked : List Asked) (first last : RunState) (events : List Event) (reports : List EventReport)
        (states : List RunState) → Has asked first → InOrder (asks_of first).link.moment events
        → (runs : Runs first events reports states last) → HasNoReuse (asks_of last).sent
        → HoldsAtReplies Claim settings first events reports states last runs
    replies-hold asked first last (e ∷ events) (report ∷ reports) (state ∷ states) h order runs once =
        let more = runs-extend state last events reports states runs.1 in
        let s = stepped Claim asked e report first state more.0 h order.0 runs.0 (subst HasNoReuse more.1 once) in (
          holds-at-reply asked e report.reply runs.0.mid state s,
          replies-hold (asked ++ s.asks) state last events reports states s.has
              (subst (λ (t : ℕ). InOrder t events) (sym s.moment_is) order.2) runs.1 once,
        )
    replies-hold asked first last [] [] [] h order runs once = tt
    replies-hold asked first last [] [] (state ∷ states) h order runs once = tt
    replies-hold asked first last [] (report ∷ reports) states h order runs once = tt
    replies-hold asked first last (e ∷ events) [] states h order runs once = tt
    replies-hold asked first last (e ∷ events) (report ∷ reports) [] h order runs once = tt
