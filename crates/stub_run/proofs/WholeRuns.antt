-- Event by event, the replies of a run stood in the zone, as whole sets, or as negative answers, or are errors that have a reason.
use Rattle.std.proofs.Common.{◌≡◌, ℕ, ◌≤◌, ◌+◌, ◌-◌, ◌^◌, min, length, ◌++◌, List, [], ◌∷◌, Result, Ok, Err, Bool, false, All, refl, sym, ap, subst, ◌∙◌, slice_index_or, inl, inr, arith, Option, Some, None}
use Rattle.std.specs.Prelude.{string_bytes}
use Rattle.std.proofs.lemmas.Bool.{true≢false}
use Rattle.std.proofs.lemmas.List.Elements.{All-cons, All-head, All-nil, All-tail}
use Rattle.dns_wire.specs.codes.RecordType.{type_number, type_of}
use Rattle.dns_wire.specs.declared.codes.record_type.RecordType.{RecordType}
use Rattle.dns_names.specs.Name.{DomainName}
use Rattle.dns_names.specs.Parse.{name_of_text}
use Rattle.dns_names.specs.declared.error.ParseError.{ParseError}
use Rattle.dns_text.specs.Address.{IsTextOf}
use Rattle.dns_messages.specs.declared.message.Message.{Message}
use Rattle.dns_messages.specs.declared.query.Query.{Query}
use Rattle.dns_messages.specs.declared.response.DnsResponse.{DnsResponse}
use Rattle.dns_messages.specs.declared.response_code.ResponseCode.{ResponseCode}
use Rattle.dns_zone.specs.Answer.{IsChain, answer}
use Rattle.dns_zone.specs.Rows.{IsZone, ZoneContent}
use Rattle.stub_config.specs.declared.request_options.DnsRequestOptions.{DnsRequestOptions}
use Rattle.stub_lookup.specs.declared.error.NetError.{NetError}
use Rattle.stub_lookup.specs.declared.error.NetError.TheVariants as net
use Rattle.stub_cache.specs.Cache.{CacheContent}
use Rattle.stub_cache.specs.Ttl.{TtlConfigContent}
use Rattle.stub_client.specs.AnswerTypes.{HasAskedTypes}
use Rattle.stub_client.specs.Handle.{Ask, Led}
use Rattle.stub_client.specs.Looks.{Reply}
use Rattle.stub_client.specs.Origins.{Asked, asked_at}
use Rattle.stub_client.specs.Step.{meaning}
use Rattle.stub_core.specs.Attempts.{Lookups}
use Rattle.stub_core.specs.Origins.{HasNoMinima}
use Rattle.stub_core.specs.Outcomes.{settings_of as told_by}
use Rattle.stub_core.specs.Resolver.{LooksUp, LooksUpHost, ResolvesHost, ResolvesName, request_options, with_handle}
use Rattle.stub_core.specs.ResolverBuilder.{empty_cache}
use Rattle.stub_core.specs.declared.resolver.settings.Settings.{Settings}
use Rattle.stub_link.specs.AskState.{AskState, UpdateZone, begin, begin_with_update, end}
use Rattle.stub_link.specs.History.{Occasion, Past, first_past, past_after_occasion}
use Rattle.stub_link.specs.LinkState.{Version}
use Rattle.stub_laws.specs.history.Answered.{AreZones, IsAnsweredBy}
use Rattle.stub_laws.specs.history.Faithful.{HasNoReuse, IsFaithful, StaysFaithful, StaysFaithfulUnlessOut}
use Rattle.stub_laws.proofs.AskedTypeLaws.{asked-types}
use Rattle.stub_laws.proofs.EventLaws.{begin-faithful, begin-update-faithful, end-faithful, first-faithful}
use Rattle.stub_laws.proofs.FaithfulLaws.{update-stays}
use Rattle.stub_laws.proofs.LedLaws.{led-holds}
use Rattle.stub_laws.proofs.ServeLaws.{UpdatesKeepZones}
use Rattle.stub_laws.specs.answers.Claims.{HasNoNegativeMinima, longest_of}
use Rattle.stub_laws.specs.answers.Lookups.{ByStanding, CacheStands, GoesOn, Stands}
use Rattle.stub_laws.proofs.ClaimLaws.{own-least}
use Rattle.stub_laws.specs.answers.Failing.{AreCounted, FailsIndeed, failed_questions}
use Rattle.stub_laws.specs.answers.Standing.{IsDeep}
use Rattle.stub_laws.proofs.ErrorLaws.{led-reasons}
use Rattle.stub_laws.proofs.GrowingLaws.{cache-on}
use Rattle.stub_laws.proofs.AnswersResolverLaws.{held-cleared, held-empty, held-later, host-keeps, name-keeps}
use Rattle.stub_laws.proofs.StandingLaws.{deep-first, finds-outlast, lacks-outlast, special-hold}
use Rattle.stub_laws.proofs.AnswersStepLaws.{ask-bears}
use Rattle.stub_link.specs.declared.link.script.Script.{Script}
use Rattle.stub_run.specs.Event.{update_of}
use Rattle.stub_run.specs.AtReplies.{AreAsked, AreWholeAtReplies, HoldsOfSteps, IsStandingReplyOf, versions_in}
use Rattle.stub_run.specs.Headline.{WorldContent, settings_of, ttls_of}
use Rattle.stub_run.specs.History.{MakePasts}
use Rattle.stub_run.specs.Run.{Clears, InOrder, RepliesByZone, RunState, Runs, Step, Updates, asks_of, begin_asks, begin_event, end_event}
use Rattle.stub_run.specs.Whole.{AreStandingEvents, AreWhole, IsStandingReply}
use Rattle.stub_run.specs.World.{IsFirst}
use Rattle.stub_run.specs.declared.event.Action.{Action}
use Rattle.stub_run.specs.declared.event.Action.TheVariants as actions
use Rattle.stub_run.specs.declared.event.Event.{Event}
use Rattle.stub_run.specs.declared.report.EventReply.{EventReply}
use Rattle.stub_run.specs.declared.report.EventReply.TheVariants as replies
use Rattle.stub_run.specs.declared.report.EventReport.{EventReport}
use Rattle.stub_run.proofs.Growing.{runs-extend}
use Rattle.stub_run.proofs.Happening.{AsksServer}
use Rattle.stub_run.proofs.RunLaws.{mid-memory}

-- faults that are counted from a number on are counted from 0 on
pub counted-all : (before count faults : ℕ) → min (before + count) (2 ^ 64 - 1) ≤ faults → min count (2 ^ 64 - 1) ≤ faults
counted-all before count faults h = omega (arith, h)

-- ---- lists

-- each ask of a lookup, in the place of each question at its moment
pub each-ask : (P : Asked → Type 0) (now : ℕ) (asks : List Ask) → All P (asked_at now asks) → All (λ ask. P (record { moment = now; ask = ask })) asks
each-ask P now [] h = All-nil (λ ask. P (record { moment = now; ask = ask }))
each-ask P now (ask ∷ asks) h =
    All-cons (λ a. P (record { moment = now; ask = a })) ask asks (All-head P (record { moment = now; ask = ask }) (asked_at now asks) h)
    (each-ask P now asks (All-tail P (record { moment = now; ask = ask }) (asked_at now asks) h))

module _ (keep : UpdatesKeepZones) (chains : (zone : ZoneContent) (q : Query) → IsChain zone.rows q.query_type q.name (answer zone q).answers)
    (round : (number : ℕ) → type_number (type_of number) ≡ number) (origin : DomainName) (config : TtlConfigContent)
    (settings : Settings) where
  -- whether intermediate aliases are preserved
  abbrev preserves : Bool
  preserves = settings.options.preserve_intermediates

  -- a state: what its cache has stood
  pub record Has (state : RunState) : Type 0 where
    pub faithful : IsFaithful origin (asks_of state)
    pub cache : CacheStands config preserves origin (asks_of state).link.history (asks_of state).link.moment state.client.cache
    pub config_is : state.client.cache.config ≡ config
    pub settings_is : state.settings ≡ settings
    pub aliases_is : state.client.preserve_intermediates ≡ preserves

  -- what holds by the bounds and the client of a state holds by those of the run, and the other way round
  by-run : (P : TtlConfigContent → Bool → Type 0) (state : RunState) → Has state
      → P state.client.cache.config state.client.preserve_intermediates → P config preserves
  by-run P state h x =
      subst (λ (b : Bool). P config b) h.aliases_is (subst (λ (c : TtlConfigContent). P c state.client.preserve_intermediates) h.config_is x)

  by-state : (P : TtlConfigContent → Bool → Type 0) (state : RunState) → Has state → P config preserves
      → P state.client.cache.config state.client.preserve_intermediates
  by-state P state h x =
      subst (λ (c : TtlConfigContent). P c state.client.preserve_intermediates) (sym h.config_is) (subst (λ (b : Bool). P config b) (sym h.aliases_is) x)

  -- the handle has come to other asks, and what stood still stands
  has-after : (old : RunState) (asks : AskState) → Has old → StaysFaithful origin (asks_of old) asks → Has (with_handle old asks)
  has-after old asks h s = record {
    faithful = s.faithful;
    cache = subst (λ (t : ℕ). CacheStands config preserves origin asks.link.history t old.client.cache) (sym s.moment_is)
        (cache-on preserves (asks_of old).link.history asks.link.history config origin (asks_of old).link.moment old.client.cache s.stands h.cache);
    config_is = h.config_is;
    settings_is = h.settings_is;
    aliases_is = h.aliases_is;
  }

  -- ---- an event begins

  has-begun : (moment : ℕ) (old : RunState) (asks : AskState) → Has old → IsFaithful origin asks
      → asks.link.history ≡ (asks_of old).link.history → asks.link.moment ≡ moment → (asks_of old).link.moment ≤ moment
      → Has (with_handle old asks)
  has-begun moment old asks h faithful same at less = record {
    faithful = faithful;
    cache = subst (λ (vs : List Version). CacheStands config preserves origin vs asks.link.moment old.client.cache) (sym same)
        (held-later (HasNoMinima config) (HasNoNegativeMinima config) (longest_of config) _ _ (asks_of old).link.moment asks.link.moment old.client.cache
        (omega (arith, at)) h.cache);
    config_is = h.config_is;
    settings_is = h.settings_is;
    aliases_is = h.aliases_is;
  }

  begun : (update : Option Message) (at : ℕ) (script : Script) (old : RunState) → Has old → (asks_of old).link.moment ≤ at
      → Has (with_handle old (begin_asks update at script (asks_of old)))
      × ((begin_asks update at script (asks_of old)).link.moment ≡ at)
  begun None at script old h less =
      (has-begun at old (begin at script (asks_of old)) h (begin-faithful origin at script (asks_of old) less h.faithful) refl refl less, refl)
  begun (Some update) at script old h less = (
    has-begun at old (begin_with_update at script (asks_of old)) h (begin-update-faithful origin at script (asks_of old) less h.faithful) refl refl
        less,
    refl,
  )

  -- ---- a lookup

  -- The questions of a lookup have answers that stood, also in a history that goes on, and so has what is kept and returned.
  pub record HasLooked (old mid : RunState) (looks : List Version → Type 0) : Type 0 where
    pub has : Has mid
    pub moment_is : (asks_of mid).link.moment ≡ (asks_of old).link.moment
    pub stands : (history : List Version) → AreZones origin history → GoesOn (asks_of mid).link.moment (asks_of mid).link.history history
        → looks history

  module _ (now : ℕ) (old mid : RunState) (later : List (ℕ × Query)) (h : Has old) (at : (asks_of old).link.moment ≡ now)
      (same : mid.settings ≡ old.settings) (memory : (asks_of mid).link.out_of_memory ≡ false) (once : HasNoReuse ((asks_of mid).sent ++ later))
      (looks : Lookups (Unit {0}) Query → Type 0)
      (keeps : (history : List Version) → Stands origin history AsksServer now old mid looks) where
    led : (asks : List Ask) → Led AsksServer (request_options old.settings.options) now (asks_of old) asks (asks_of mid)
        → StaysFaithful origin (asks_of old) (asks_of mid) × All (IsAnsweredBy origin (asks_of mid).link.history) (asked_at now asks)
    led asks l = led-holds (request_options old.settings.options) now keep origin (asks_of old) (asks_of mid) asks later h.faithful at l memory once

    stays : StaysFaithful origin (asks_of old) (asks_of mid)
    stays = (led (keeps (asks_of mid).link.history).asks (keeps (asks_of mid).link.history).led).0

    at-mid : (asks_of mid).link.moment ≡ now
    at-mid = stays.moment_is ∙ at

    answered-on : (history : List Version) → GoesOn now (asks_of mid).link.history history → (ask : Ask)
        → IsAnsweredBy origin (asks_of mid).link.history (record { moment = now; ask = ask })
        → IsAnsweredBy origin history (record { moment = now; ask = ask })
    answered-on history on ask answered = λ response ok.
        let held = answered response ok in
        record { full = held.full; rows = held.rows; stand = on now held.rows (omega arith) held.stand; holds = held.holds }

    abbrev options : DnsRequestOptions
    options = request_options old.settings.options

    -- the lookup is one in which each reply stood, or has a reason
    abbrev IsStanding : TtlConfigContent → Bool → List Version → Type 0
    IsStanding c b history =
        (asks : List Ask) × Led AsksServer options now (asks_of old) asks (asks_of mid)
        × AreCounted (failed_questions asks) (asks_of mid).faults
        × looks (ByStanding c b origin options history (failed_questions asks) now)

    -- over each history that goes on after the lookup
    looked : (history : List Version) → AreZones origin history → GoesOn now (asks_of mid).link.history history
        → CacheStands old.client.cache.config old.client.preserve_intermediates origin history now mid.client.cache
        × IsStanding old.client.cache.config old.client.preserve_intermediates history
    looked history zones on =
        let k = keeps history in
        let answered : All (λ ask. IsAnsweredBy origin history (record { moment = now; ask = ask })) k.asks =
        λ n d less. answered-on history on (slice_index_or k.asks n d)
        (each-ask (IsAnsweredBy origin (asks_of mid).link.history) now k.asks (led k.asks k.led).1 n d less) in
        let reasons = led-reasons options now (asks_of old) (asks_of mid) k.asks k.led memory in
        let first : GoesOn now (asks_of old).link.history history =
        λ moment rows past stand. on moment rows past
        (stays.stands moment rows (let begun : (asks_of old).link.moment ≡ now = at in omega arith) stand) in
        let kept = k.keeps
        (record {
          bear = λ n d less. ask-bears chains origin options history (failed_questions k.asks) zones old.client.cache.config (told_by old) now
              (slice_index_or k.asks n d) (answered n d less) (reasons.reasons n d less);
          typed = typed-by k.asks (led k.asks k.led).1;
        })
        (cache-on old.client.preserve_intermediates (asks_of old).link.history history old.client.cache.config origin now old.client.cache first
        (by-state (λ c b. CacheStands c b origin (asks_of old).link.history now old.client.cache) old h
        (subst (λ (t : ℕ). CacheStands config preserves origin (asks_of old).link.history t old.client.cache) at h.cache))) in (
          kept.0,
          (
            k.asks,
            k.led,
            counted-all (asks_of old).faults (length (failed_questions k.asks)) (asks_of mid).faults reasons.counted,
            kept.1,
          ),
        )
      where
        typed-by : (asks : List Ask) → All (IsAnsweredBy origin (asks_of mid).link.history) (asked_at now asks)
            → All (λ ask. (response : DnsResponse) → meaning ask.outcome ≡ Ok response → HasAskedTypes ask.question response.message) asks
        typed-by asks answered =
            each-ask (λ a. (response : DnsResponse) → meaning a.ask.outcome ≡ Ok response → HasAskedTypes a.ask.question response.message) now asks
            (asked-types chains origin (asks_of mid).link.history stays.faithful.history.versions (asked_at now asks) answered)

    has-looked : HasLooked old mid (IsStanding config preserves)
    has-looked =
        let k = keeps (asks_of mid).link.history in
        let here = looked (asks_of mid).link.history stays.faithful.history.versions (λ moment rows past stand. stand) in
        record {
          has = record {
            faithful = stays.faithful;
            cache = subst (λ (t : ℕ). CacheStands config preserves origin (asks_of mid).link.history t mid.client.cache) (sym at-mid)
                (by-run (λ c b. CacheStands c b origin (asks_of mid).link.history now mid.client.cache) old h here.0);
            config_is = k.config ∙ h.config_is;
            settings_is = same ∙ h.settings_is;
            aliases_is = k.aliases ∙ h.aliases_is;
          };
          moment_is = stays.moment_is;
          stands = λ history zones on.
              by-run (λ c b. IsStanding c b history) old h
              (looked history zones (subst (λ (t : ℕ). GoesOn t (asks_of mid).link.history history) at-mid on)).1;
        }

  -- ---- the reply to an event

  abbrev pub StandsOn : ℕ → Action → EventReply → RunState → RunState → Type 0
  StandsOn at action reply old mid =
      (history : List Version) → AreZones origin history → GoesOn (asks_of mid).link.moment (asks_of mid).link.history history
      → IsStandingReplyOf config origin history settings (asks_of mid).faults at (asks_of old) (asks_of mid) action reply

  -- a reply that stood by the questions of its lookup stood by some questions
  forget : (history : List Version) (faults at : ℕ) (begun replied : AskState) (action : Action) (reply : EventReply)
      → IsStandingReplyOf config origin history settings faults at begun replied action reply
      → IsStandingReply config origin history settings faults at action reply
  forget history faults at begun replied (actions.Lookup name kind) (replies.Lookup found) h = (failed_questions h.0, h.2, h.3)
  forget history faults at begun replied (actions.LookupIp host) (replies.LookupIp found) h =
      (h.0, h.1, failed_questions h.2, h.4, h.5)
  forget history faults at begun replied (actions.Clear name kind) (replies.Cleared done) h = tt
  forget history faults at begun replied actions.ClearAll (replies.Cleared done) h = tt
  forget history faults at begun replied (actions.Update update) (replies.Update reply) h = tt
  forget history faults at begun replied action reply h = absurd h

  pub record HasReplied (at : ℕ) (action : Action) (reply : EventReply) (old mid : RunState) : Type 0 where
    pub has : Has mid
    pub moment_is : (asks_of mid).link.moment ≡ (asks_of old).link.moment
    pub stands : StandsOn at action reply old mid

  looked-up : (at : ℕ) (name : DomainName) (kind : RecordType) (found : Reply) (old mid : RunState) (later : List (ℕ × Query))
      → Has old → (asks_of old).link.moment ≡ at → ResolvesName AsksServer at (Ok name) kind old found mid
      → (asks_of mid).link.out_of_memory ≡ false → HasNoReuse ((asks_of mid).sent ++ later)
      → HasReplied at (actions.Lookup name kind) (replies.Lookup found) old mid
  looked-up at name kind found old mid later h moment resolves memory once =
      let c : TtlConfigContent = old.client.cache.config in
      let b : Bool = old.client.preserve_intermediates in
      let l = has-looked at old mid later h moment resolves.settings memory once
      (λ asks. LooksUp old.settings at asks (Ok name) kind tt found tt)
      (λ history. name-keeps AsksServer at old mid (HasNoMinima c) (HasNoNegativeMinima c) (longest_of c) _ _ _
      (λ asks q at error. FailsIndeed b origin (request_options old.settings.options) history (failed_questions asks) q at error)
      (λ depth q. IsDeep b history at depth q) (finds-outlast c b history)
      (lacks-outlast c b origin history) (special-hold c b origin history) (deep-first b history at) (own-least c) round (Ok name) kind found resolves.lookup) in
      record {
        has = l.has;
        moment_is = l.moment_is;
        stands = λ history zones on.
            subst
            (λ (s : Settings). (asks : List Ask) × AreAsked s at (asks_of old) asks (asks_of mid)
            × AreCounted (failed_questions asks) (asks_of mid).faults
            × LooksUp s at (ByStanding config preserves origin (request_options s.options) history (failed_questions asks) at) (Ok name) kind tt found tt)
            h.settings_is (l.stands history zones on);
      }

  looked-up-host : (at : ℕ) (host : _) (found : Reply) (old mid : RunState) (later : List (ℕ × Query))
      → Has old → (asks_of old).link.moment ≡ at
      → ResolvesHost AsksServer at (IsTextOf (string_bytes host)) (name_of_text (string_bytes host)) old found mid
      → (asks_of mid).link.out_of_memory ≡ false → HasNoReuse ((asks_of mid).sent ++ later)
      → HasReplied at (actions.LookupIp host) (replies.LookupIp found) old mid
  looked-up-host at host found old mid later h moment resolves memory once =
      let c : TtlConfigContent = old.client.cache.config in
      let b : Bool = old.client.preserve_intermediates in
      let name : Result DomainName ParseError = name_of_text (string_bytes host) in
      let l = has-looked at old mid later h moment resolves.settings memory once
      (λ asks. LooksUpHost old.settings at asks resolves.address name tt found tt)
      (λ history. host-keeps AsksServer at old mid (HasNoMinima c) (HasNoNegativeMinima c) (longest_of c) _ _ _
      (λ asks q at error. FailsIndeed b origin (request_options old.settings.options) history (failed_questions asks) q at error)
      (λ depth q. IsDeep b history at depth q) (finds-outlast c b history)
      (lacks-outlast c b origin history) (special-hold c b origin history) (deep-first b history at) (own-least c) round resolves.address name found resolves.lookup) in
      record {
        has = l.has;
        moment_is = l.moment_is;
        stands = λ history zones on.
            (let looks =
            subst
            (λ (s : Settings). (asks : List Ask) × AreAsked s at (asks_of old) asks (asks_of mid)
            × AreCounted (failed_questions asks) (asks_of mid).faults
            × LooksUpHost s at (ByStanding config preserves origin (request_options s.options) history (failed_questions asks) at) resolves.address name tt found tt)
            h.settings_is (l.stands history zones on) in
            (resolves.address, resolves.is_address, looks.0, looks.1, looks.2, looks.3));
      }

  -- other entries in the cache
  has-cleared : (old mid : RunState) (cache : CacheContent) → Has old
      → CacheStands config preserves origin (asks_of old).link.history (asks_of old).link.moment cache → cache.config ≡ old.client.cache.config
      → mid ≡ record old { client = record old.client { cache = cache } } → Has mid
  has-cleared old mid cache h stands same is =
      subst Has (sym is)
      (record { faithful = h.faithful; cache = stands; config_is = same ∙ h.config_is; settings_is = h.settings_is; aliases_is = h.aliases_is })

  cleared : (name : DomainName) (kind : RecordType) (done : Result (Unit {0}) NetError) (old mid : RunState) → Has old
      → Clears name kind old done mid → Has mid × ((asks_of mid).link.moment ≡ (asks_of old).link.moment)
  cleared name kind (Ok done) old mid h clears = (
    has-cleared old mid _ h
        (held-cleared (HasNoMinima config) (HasNoNegativeMinima config) (longest_of config) _ _ (asks_of old).link.moment old.client.cache old.settings (Ok name) kind
        h.cache) refl clears,
    ap (λ (s : RunState). (asks_of s).link.moment) clears,
  )
  cleared name kind (Err net.Memory) old mid h clears =
      (subst Has (sym clears) h, ap (λ (s : RunState). (asks_of s).link.moment) clears)
  cleared name kind (Err (net.Dns e)) old mid h clears = absurd clears
  cleared name kind (Err (net.Proto e)) old mid h clears = absurd clears
  cleared name kind (Err (net.Message e)) old mid h clears = absurd clears
  cleared name kind (Err (net.Link e)) old mid h clears = absurd clears
  cleared name kind (Err net.Unsupported) old mid h clears = absurd clears

  updated : (update : Message) (reply : Result ResponseCode NetError) (old mid : RunState) → Has old
      → Updates (λ asks update reply after. UpdateZone asks update reply after) update old reply mid
      → (asks_of mid).link.out_of_memory ≡ false → Has mid × ((asks_of mid).link.moment ≡ (asks_of old).link.moment)
  updated update reply old mid h updates memory =
      by (update-stays keep origin (asks_of old) h.faithful update updates.sound reply (asks_of mid) updates.sent)
    where
      by : StaysFaithfulUnlessOut origin (asks_of old) (asks_of mid) → Has mid × ((asks_of mid).link.moment ≡ (asks_of old).link.moment)
      by (inl out) = absurd (true≢false (sym out ∙ memory))
      by (inr stays) = (subst Has (sym updates.rest) (has-after old (asks_of mid) h stays), stays.moment_is)

  replied : (at : ℕ) (action : Action) (reply : EventReply) (old mid : RunState) (later : List (ℕ × Query)) → Has old
      → (asks_of old).link.moment ≡ at → RepliesByZone old at action reply mid → (asks_of mid).link.out_of_memory ≡ false
      → HasNoReuse ((asks_of mid).sent ++ later) → HasReplied at action reply old mid
  replied at (actions.Lookup name kind) (replies.Lookup found) old mid later h moment r memory once =
      looked-up at name kind found old mid later h moment r memory once
  replied at (actions.LookupIp host) (replies.LookupIp found) old mid later h moment r memory once =
      looked-up-host at host found old mid later h moment r memory once
  replied at (actions.Clear name kind) (replies.Cleared done) old mid later h moment r memory once =
      let c = cleared name kind done old mid h r in
      record { has = c.0; moment_is = c.1; stands = λ history zones on. tt }
  replied at actions.ClearAll (replies.Cleared done) old mid later h moment r memory once = record {
    has = has-cleared old mid _ h
        (held-empty (HasNoMinima config) (HasNoNegativeMinima config) (longest_of config) _ _ (asks_of old).link.moment old.client.cache) refl r.1;
    moment_is = ap (λ (s : RunState). (asks_of s).link.moment) r.1;
    stands = λ history zones on. tt;
  }
  replied at (actions.Update update) (replies.Update reply) old mid later h moment r memory once =
      let u = updated update.value reply old mid h r memory in
      record { has = u.0; moment_is = u.1; stands = λ history zones on. tt }
  replied at action reply old mid later h moment r memory once = absurd r

  -- ---- one event

  pub record HasStepped (e : Event) (report : EventReport) (old new : RunState) (step : Step old e report new) : Type 0 where
    pub has : Has new
    pub moment_is : (asks_of new).link.moment ≡ e.at
    pub stands : IsStandingReply config origin (asks_of new).link.history settings report.faults e.at e.action report.reply
    pub at_reply : IsStandingReplyOf config origin (versions_in step.mid) settings report.faults e.at (asks_of (begin_event e old)) (asks_of step.mid) e.action report.reply

  stepped : (e : Event) (report : EventReport) (old new : RunState) (later : List (ℕ × Query)) → Has old
      → (asks_of old).link.moment ≤ e.at → (step : Step old e report new) → HasNoReuse ((asks_of new).sent ++ later)
      → HasStepped e report old new step
  stepped e report old new later h less step once =
      let b = begun (update_of e.action) e.at e.script old h less in
      let sent : (asks_of new).sent ≡ (asks_of step.mid).sent = ap (λ (s : RunState). (asks_of s).sent) step.ends in
      let r = replied e.at e.action report.reply (begin_event e old) step.mid later b.0 b.1 step.replies (mid-memory old e report new step)
      (subst (λ (s : List (ℕ × Query)). HasNoReuse (s ++ later)) sent once) in
      let stays = end-faithful keep origin (asks_of step.mid) r.has.faithful in
      let last : Has (end_event step.mid) = has-after step.mid (end (asks_of step.mid)) r.has stays in
      let faults : (asks_of step.mid).faults ≡ report.faults = sym (step.faults ∙ ap (λ (s : RunState). (asks_of s).faults) step.ends) in
      let begins : AskState = asks_of (begin_event e old) in
      record {
        has = subst Has (sym step.ends) last;
        moment_is = ap (λ (s : RunState). (asks_of s).link.moment) step.ends ∙ stays.moment_is ∙ r.moment_is ∙ b.1;
        stands = subst (λ (n : ℕ). IsStandingReply config origin (asks_of new).link.history settings n e.at e.action report.reply) (sym step.faults)
            (subst (λ (s : RunState). IsStandingReply config origin (asks_of s).link.history settings (asks_of s).faults e.at e.action report.reply)
            (sym step.ends)
            (forget (end (asks_of step.mid)).link.history (asks_of step.mid).faults e.at begins (asks_of step.mid) e.action report.reply
            (r.stands (end (asks_of step.mid)).link.history stays.faithful.history.versions stays.stands)));
        at_reply = subst
            (λ (n : ℕ). IsStandingReplyOf config origin (versions_in step.mid) settings n e.at begins (asks_of step.mid) e.action report.reply)
            faults
            (r.stands (versions_in step.mid) r.has.faithful.history.versions (λ moment rows past stand. stand));
      }

  -- ---- all events

  pub events-stand : (past : Past) (first last : RunState) (events : List Event) (reports : List EventReport) (states : List RunState)
      (occasions : List Occasion) → Has first → InOrder (asks_of first).link.moment events → Runs first events reports states last
      → HasNoReuse (asks_of last).sent → MakePasts past states occasions
      → AreStandingEvents config origin settings past events reports occasions
  events-stand past first last [] [] [] [] h order runs once pasts = tt
  events-stand past first last (e ∷ events) (report ∷ reports) (state ∷ states) (o ∷ occasions) h order runs once pasts =
      let more = runs-extend state last events reports states runs.1 in
      let s = stepped e report first state more.0 h order.0 runs.0 (subst HasNoReuse more.1 once) in (
        subst (λ (vs : List Version). IsStandingReply config origin vs settings report.faults e.at e.action report.reply) (ap (λ (p : Past). p.history) pasts.0) s.stands,
        events-stand (past_after_occasion past o) state last events reports states occasions s.has
            (subst (λ (t : ℕ). InOrder t events) (sym s.moment_is) order.2) runs.1 once pasts.1,
      )
  events-stand past first last [] [] [] (o ∷ occasions) h order runs once pasts = absurd pasts
  events-stand past first last [] [] (state ∷ states) occasions h order runs once pasts = absurd runs
  events-stand past first last [] (report ∷ reports) states occasions h order runs once pasts = absurd runs
  events-stand past first last (e ∷ events) [] states occasions h order runs once pasts = absurd runs
  events-stand past first last (e ∷ events) (report ∷ reports) [] occasions h order runs once pasts = absurd runs
  events-stand past first last (e ∷ events) (report ∷ reports) (state ∷ states) [] h order runs once pasts = absurd pasts

  -- by the versions up to each reply, and by the questions of its lookup
  pub replies-stand : (first last : RunState) (events : List Event) (reports : List EventReport) (states : List RunState) → Has first
      → InOrder (asks_of first).link.moment events → (runs : Runs first events reports states last) → HasNoReuse (asks_of last).sent
      → HoldsOfSteps
      (λ old e report new step. IsStandingReplyOf config origin (versions_in step.mid) settings report.faults e.at
      (asks_of (begin_event e old)) (asks_of step.mid) e.action report.reply)
      first events reports states last runs
  replies-stand first last (e ∷ events) (report ∷ reports) (state ∷ states) h order runs once =
      let more = runs-extend state last events reports states runs.1 in
      let s = stepped e report first state more.0 h order.0 runs.0 (subst HasNoReuse more.1 once) in (
        s.at_reply,
        replies-stand state last events reports states s.has (subst (λ (t : ℕ). InOrder t events) (sym s.moment_is) order.2) runs.1 once,
      )
  replies-stand first last [] [] [] h order runs once = tt
  replies-stand first last [] [] (state ∷ states) h order runs once = tt
  replies-stand first last [] (report ∷ reports) states h order runs once = tt
  replies-stand first last (e ∷ events) [] states h order runs once = tt
  replies-stand first last (e ∷ events) (report ∷ reports) [] h order runs once = tt

-- ---- runs

has-first : (keep : UpdatesKeepZones) (chains : (zone : ZoneContent) (q : Query) → IsChain zone.rows q.query_type q.name (answer zone q).answers)
    (round : (number : ℕ) → type_number (type_of number) ≡ number) (content : WorldContent) (first : RunState) → IsZone content.zone
    → IsFirst content.zone content.limit content.ids content.config content.options content.hosts first
    → Has keep chains round content.zone.origin (ttls_of content) (settings_of content) first
has-first keep chains round content first zone begins =
    let origin : DomainName = content.zone.origin in
    let ttls : TtlConfigContent = ttls_of content in
    record {
      faithful = subst (IsFaithful origin) (sym begins.asks) (first-faithful content.zone content.limit content.ids zone);
      cache = subst (λ (c : CacheContent). CacheStands ttls content.options.preserve_intermediates origin (asks_of first).link.history (asks_of first).link.moment c) (sym begins.cache)
          (held-empty (HasNoMinima ttls) (HasNoNegativeMinima ttls) (longest_of ttls) _ _ (asks_of first).link.moment (empty_cache content.options));
      config_is = ap (λ (c : CacheContent). c.config) begins.cache;
      settings_is = begins.settings;
      aliases_is = begins.aliases;
    }

pub whole-run : UpdatesKeepZones → ((zone : ZoneContent) (q : Query) → IsChain zone.rows q.query_type q.name (answer zone q).answers)
    → ((number : ℕ) → type_number (type_of number) ≡ number) → (content : WorldContent) (first last : RunState) (events : List Event)
    (reports : List EventReport) (states : List RunState) (occasions : List Occasion) → IsZone content.zone
    → IsFirst content.zone content.limit content.ids content.config content.options content.hosts first
    → InOrder 0 events → Runs first events reports states last → MakePasts (first_past content.zone) states occasions
    → HasNoReuse (asks_of last).sent → AreWhole content events reports occasions
whole-run keep chains round content first last events reports states occasions zone begins order runs pasts once =
    events-stand keep chains round content.zone.origin (ttls_of content) (settings_of content) (first_past content.zone) first last events reports
    states occasions (has-first keep chains round content first zone begins)
    (subst (λ (a : AskState). InOrder a.link.moment events) (sym begins.asks) order) runs once pasts

pub whole-at-replies : UpdatesKeepZones → ((zone : ZoneContent) (q : Query) → IsChain zone.rows q.query_type q.name (answer zone q).answers)
    → ((number : ℕ) → type_number (type_of number) ≡ number) → (content : WorldContent) (first last : RunState) (events : List Event)
    (reports : List EventReport) (states : List RunState) → IsZone content.zone
    → IsFirst content.zone content.limit content.ids content.config content.options content.hosts first
    → InOrder 0 events → (runs : Runs first events reports states last) → HasNoReuse (asks_of last).sent
    → AreWholeAtReplies content first events reports states last runs
whole-at-replies keep chains round content first last events reports states zone begins order runs once =
    replies-stand keep chains round content.zone.origin (ttls_of content) (settings_of content) first last events reports states
    (has-first keep chains round content first zone begins)
    (subst (λ (a : AskState). InOrder a.link.moment events) (sym begins.asks) order) runs once
