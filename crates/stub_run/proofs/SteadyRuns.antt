-- Where the rows of the zone do not change, the replies of a run stood in the zone as it is, or are errors that have a reason.
use Rattle.std.proofs.Common.{◌≡◌, ℕ, ◌≤◌, length, ◌++◌, List, [], ◌∷◌, Result, Ok, Err, Bool, false, All, refl, sym, ap, subst, ◌∙◌, slice_index_or, inl, inr, arith, Option, Some, None}
use Rattle.std.specs.Prelude.{string_bytes}
use Rattle.std.proofs.lemmas.Bool.{true≢false}
use Rattle.std.proofs.lemmas.List.{append_assoc, append-nil}
use Rattle.std.proofs.lemmas.List.Elements.{All-cons, All-nil}
use Rattle.dns_wire.specs.codes.RecordType.{type_number, type_of}
use Rattle.dns_wire.specs.declared.codes.record_type.RecordType.{RecordType}
use Rattle.dns_names.specs.Name.{DomainName}
use Rattle.dns_records.specs.Rows.{Rows}
use Rattle.dns_names.specs.Parse.{name_of_text}
use Rattle.dns_names.specs.declared.error.ParseError.{ParseError}
use Rattle.dns_text.specs.Address.{IsTextOf}
use Rattle.dns_messages.specs.declared.message.Message.{Message}
use Rattle.dns_messages.specs.declared.query.Query.{Query}
use Rattle.dns_messages.specs.declared.response.DnsResponse.{DnsResponse}
use Rattle.dns_messages.specs.declared.response_code.ResponseCode.{ResponseCode}
use Rattle.dns_zone.specs.Answer.{IsChain, answer}
use Rattle.dns_zone.specs.Rows.{IsZone, ZoneContent}
use Rattle.stub_config.specs.declared.request_options.DnsRequestOptions.{DnsRequestOptions}
use Rattle.stub_lookup.specs.declared.error.NetError.{NetError}
use Rattle.stub_lookup.specs.declared.error.NetError.TheVariants as net
use Rattle.stub_cache.specs.Cache.{CacheContent}
use Rattle.stub_cache.specs.Ttl.{TtlConfigContent}
use Rattle.stub_client.specs.AnswerTypes.{HasAskedTypes}
use Rattle.stub_client.specs.Handle.{Ask}
use Rattle.stub_client.specs.Looks.{Reply}
use Rattle.stub_client.specs.Origins.{asked_at}
use Rattle.stub_client.specs.Step.{meaning}
use Rattle.stub_core.specs.Attempts.{Lookups}
use Rattle.stub_core.specs.Origins.{HasNoMinima}
use Rattle.stub_core.specs.Outcomes.{settings_of as told_by}
use Rattle.stub_core.specs.Resolver.{LooksUp, LooksUpHost, ResolvesHost, ResolvesName, request_options, with_handle}
use Rattle.stub_core.specs.ResolverBuilder.{empty_cache}
use Rattle.stub_core.specs.declared.resolver.settings.Settings.{Settings}
use Rattle.stub_link.specs.AskState.{AskState, UpdateZone, begin, begin_with_update, end}
use Rattle.stub_link.specs.History.{Occasion, Past, first_past, past_of}
use Rattle.stub_link.specs.LinkState.{Version}
use Rattle.stub_laws.specs.history.Answered.{AreZones, HoldsAnswer, IsAnsweredBy, IsAnsweredSince, zone_with}
use Rattle.stub_laws.specs.history.Faithful.{HasNoReuse, IsCurrent, IsFaithful, StaysFaithful, StaysFaithfulUnlessOut}
use Rattle.stub_laws.specs.history.Stands.{Extends}
use Rattle.stub_laws.proofs.AskedTypeLaws.{asked-types}
use Rattle.stub_laws.proofs.EventLaws.{begin-faithful, begin-update-faithful, end-faithful, first-faithful}
use Rattle.stub_laws.proofs.FaithfulLaws.{update-stays}
use Rattle.stub_laws.proofs.LedLaws.{led-holds, led-since}
use Rattle.stub_laws.proofs.ServeLaws.{UpdatesKeepZones}
use Rattle.stub_laws.specs.answers.Claims.{HasNoNegativeMinima, longest_of}
use Rattle.stub_laws.specs.answers.Lookups.{ByStanding, CacheStands, Stands}
use Rattle.stub_laws.specs.answers.Steady.{always}
use Rattle.stub_laws.proofs.ClaimLaws.{own-least}
use Rattle.stub_laws.specs.answers.Failing.{AreCounted, FailsIndeed, failed_questions}
use Rattle.stub_laws.specs.answers.Standing.{IsDeep}
use Rattle.stub_laws.proofs.ErrorLaws.{led-reasons}
use Rattle.stub_laws.proofs.AnswersResolverLaws.{held-cleared, held-empty, held-later, host-keeps, name-keeps}
use Rattle.stub_laws.proofs.StandingLaws.{deep-first, finds-outlast, lacks-outlast, special-hold}
use Rattle.stub_laws.proofs.AnswersSteadyLaws.{always-stand}
use Rattle.stub_laws.proofs.AnswersStepLaws.{ask-bears}
use Rattle.stub_link.specs.declared.link.script.Script.{Script}
use Rattle.stub_run.specs.Event.{update_of}
use Rattle.stub_run.specs.Headline.{WorldContent, settings_of, ttls_of}
use Rattle.stub_run.specs.History.{MakePasts}
use Rattle.stub_run.specs.Run.{Clears, InOrder, RepliesByZone, RunState, Runs, Step, Updates, asks_of, begin_asks, begin_event}
use Rattle.stub_run.specs.Steady.{AreSteady, AreSteadyEvents, IsSteadyEvent}
use Rattle.stub_run.specs.Walked.{IsUnchanged, past_since}
use Rattle.stub_run.specs.Whole.{IsStandingReply}
use Rattle.stub_run.specs.World.{IsFirst}
use Rattle.stub_run.specs.declared.event.Action.{Action}
use Rattle.stub_run.specs.declared.event.Action.TheVariants as actions
use Rattle.stub_run.specs.declared.event.Event.{Event}
use Rattle.stub_run.specs.declared.report.EventReply.{EventReply}
use Rattle.stub_run.specs.declared.report.EventReply.TheVariants as replies
use Rattle.stub_run.specs.declared.report.EventReport.{EventReport}
use Rattle.stub_run.proofs.Growing.{past-begun, runs-extend}
use Rattle.stub_run.proofs.Happening.{AsksServer}
use Rattle.stub_run.proofs.RunLaws.{mid-memory}
use Rattle.stub_run.proofs.Unchanged.{since-same, unchanged-before}
use Rattle.stub_run.proofs.WholeRuns.{counted-all, each-ask}

-- the history goes on
extends-then : (earlier mid history : List Version) → Extends earlier mid → Extends mid history → Extends earlier history
extends-then earlier mid history one two = (
  one.0 ++ two.0,
  two.1 ∙ ap (λ (vs : List Version). vs ++ two.0) one.1 ∙ append_assoc earlier one.0 two.0,
)

module _ (keep : UpdatesKeepZones) (chains : (zone : ZoneContent) (q : Query) → IsChain zone.rows q.query_type q.name (answer zone q).answers)
    (round : (number : ℕ) → type_number (type_of number) ≡ number) (origin : DomainName) (config : TtlConfigContent)
    (settings : Settings) where
  -- whether intermediate aliases are preserved
  abbrev preserves : Bool
  preserves = settings.options.preserve_intermediates

  -- A state after a past: what its cache has stood in the zone of that past, if this has not changed since.
  pub record Has (first : Past) (state : RunState) : Type 0 where
    pub faithful : IsFaithful origin (asks_of state)
    pub good : IsZone (zone_with origin first.zone.rows)
    pub moment : ℕ
    pub current : IsCurrent first.history moment first.zone.rows
    pub added : Extends first.history (asks_of state).link.history
    pub cache : IsUnchanged first (asks_of state).link.history
        → CacheStands config preserves origin (always first.zone.rows) (asks_of state).link.moment state.client.cache
    pub config_is : state.client.cache.config ≡ config
    pub settings_is : state.settings ≡ settings
    pub aliases_is : state.client.preserve_intermediates ≡ preserves

  -- what holds by the bounds and the client of a state holds by those of the run, and the other way round
  by-run : (first : Past) (P : TtlConfigContent → Bool → Type 0) (state : RunState) → Has first state
      → P state.client.cache.config state.client.preserve_intermediates → P config preserves
  by-run first P state h x =
      subst (λ (b : Bool). P config b) h.aliases_is (subst (λ (c : TtlConfigContent). P c state.client.preserve_intermediates) h.config_is x)

  by-state : (first : Past) (P : TtlConfigContent → Bool → Type 0) (state : RunState) → Has first state → P config preserves
      → P state.client.cache.config state.client.preserve_intermediates
  by-state first P state h x =
      subst (λ (c : TtlConfigContent). P c state.client.preserve_intermediates) (sym h.config_is) (subst (λ (b : Bool). P config b) (sym h.aliases_is) x)

  -- the handle has come to other asks
  has-after : (first : Past) (old : RunState) (asks : AskState) → Has first old → StaysFaithful origin (asks_of old) asks
      → Has first (with_handle old asks)
  has-after first old asks h s = record {
    faithful = s.faithful;
    good = h.good;
    moment = h.moment;
    current = h.current;
    added = extends-then first.history (asks_of old).link.history asks.link.history h.added s.added;
    cache = λ unchanged.
        subst (λ (t : ℕ). CacheStands config preserves origin (always first.zone.rows) t old.client.cache) (sym s.moment_is)
        (h.cache (unchanged-before first (asks_of old).link.history asks.link.history s.added unchanged));
    config_is = h.config_is;
    settings_is = h.settings_is;
    aliases_is = h.aliases_is;
  }

  -- ---- an event begins

  has-begun : (first : Past) (moment : ℕ) (old : RunState) (asks : AskState) → Has first old → IsFaithful origin asks
      → asks.link.history ≡ (asks_of old).link.history → asks.link.moment ≡ moment → (asks_of old).link.moment ≤ moment
      → Has first (with_handle old asks)
  has-begun first moment old asks h faithful same at less = record {
    faithful = faithful;
    good = h.good;
    moment = h.moment;
    current = h.current;
    added = (h.added.0, same ∙ h.added.1);
    cache = λ unchanged.
        held-later (HasNoMinima config) (HasNoNegativeMinima config) (longest_of config) _ _ (asks_of old).link.moment asks.link.moment
        old.client.cache (omega (arith, at)) (h.cache (subst (λ (vs : List Version). IsUnchanged first vs) same unchanged));
    config_is = h.config_is;
    settings_is = h.settings_is;
    aliases_is = h.aliases_is;
  }

  begun : (first : Past) (update : Option Message) (at : ℕ) (script : Script) (old : RunState) → Has first old → (asks_of old).link.moment ≤ at
      → Has first (with_handle old (begin_asks update at script (asks_of old)))
      × ((begin_asks update at script (asks_of old)).link.moment ≡ at)
  begun first None at script old h less =
      (has-begun first at old (begin at script (asks_of old)) h (begin-faithful origin at script (asks_of old) less h.faithful) refl refl less, refl)
  begun first (Some update) at script old h less = (
    has-begun first at old (begin_with_update at script (asks_of old)) h
        (begin-update-faithful origin at script (asks_of old) less h.faithful) refl refl less,
    refl,
  )

  -- ---- a lookup

  -- The questions of a lookup have answers of the zone of a past, if this has not changed since, and so has what is kept and returned.
  pub record HasLooked (first : Past) (old mid : RunState) (looks : Type 0) : Type 0 where
    pub has : Has first mid
    pub moment_is : (asks_of mid).link.moment ≡ (asks_of old).link.moment
    pub stands : IsUnchanged first (asks_of mid).link.history → looks

  module _ (first : Past) (now : ℕ) (old mid : RunState) (later : List (ℕ × Query)) (h : Has first old) (at : (asks_of old).link.moment ≡ now)
      (same : mid.settings ≡ old.settings) (memory : (asks_of mid).link.out_of_memory ≡ false) (once : HasNoReuse ((asks_of mid).sent ++ later))
      (looks : Lookups (Unit {0}) Query → Type 0)
      (keeps : Stands origin (always first.zone.rows) AsksServer now old mid looks) where
    abbrev options : DnsRequestOptions
    options = request_options old.settings.options

    led : StaysFaithful origin (asks_of old) (asks_of mid) × All (IsAnsweredBy origin (asks_of mid).link.history) (asked_at now keeps.asks)
    led = led-holds options now keep origin (asks_of old) (asks_of mid) keeps.asks later h.faithful at keeps.led memory once

    stays : StaysFaithful origin (asks_of old) (asks_of mid)
    stays = led.0

    at-mid : (asks_of mid).link.moment ≡ now
    at-mid = stays.moment_is ∙ at

    added : Extends first.history (asks_of mid).link.history
    added = extends-then first.history (asks_of old).link.history (asks_of mid).link.history h.added stays.added

    since : All (IsAnsweredSince origin first.history (asks_of mid).link.history) keeps.asks
    since = led-since options now keep origin first.history (asks_of old) (asks_of mid) keeps.asks later h.added h.faithful at keeps.led memory once

    zones : AreZones origin (always first.zone.rows)
    zones = All-cons (λ (v : Version). IsZone (zone_with origin v.rows)) (record { moment = 0; rows = first.zone.rows }) []
        h.good (All-nil (λ (v : Version). IsZone (zone_with origin v.rows)))

    answered-always : IsUnchanged first (asks_of mid).link.history → (ask : Ask)
        → IsAnsweredBy origin (asks_of mid).link.history (record { moment = now; ask = ask })
        → IsAnsweredSince origin first.history (asks_of mid).link.history ask
        → IsAnsweredBy origin (always first.zone.rows) (record { moment = now; ask = ask })
    answered-always unchanged ask answered hold = λ response ok.
        let held = hold response ok in
        record {
          full = (answered response ok).full;
          rows = first.zone.rows;
          stand = always-stand first.zone.rows now;
          holds = subst (λ (rows : Rows). HoldsAnswer (zone_with origin rows) ask.question response.message)
              (since-same first (asks_of mid).link.history h.moment h.current added unchanged held.rows held.since) held.holds;
        }

    typed : All (λ ask. (response : DnsResponse) → meaning ask.outcome ≡ Ok response → HasAskedTypes ask.question response.message) keeps.asks
    typed =
        each-ask (λ a. (response : DnsResponse) → meaning a.ask.outcome ≡ Ok response → HasAskedTypes a.ask.question response.message) now keeps.asks
        (asked-types chains origin (asks_of mid).link.history stays.faithful.history.versions (asked_at now keeps.asks) led.1)

    -- the lookup is one in which each reply stood, or has a reason
    abbrev IsSteady : TtlConfigContent → Bool → Type 0
    IsSteady c b =
        (failed : List Query) × AreCounted failed (asks_of mid).faults
        × looks (ByStanding c b origin options (always first.zone.rows) failed now)

    looked : IsUnchanged first (asks_of mid).link.history
        → CacheStands old.client.cache.config old.client.preserve_intermediates origin (always first.zone.rows) now mid.client.cache
        × IsSteady old.client.cache.config old.client.preserve_intermediates
    looked unchanged =
        let reasons = led-reasons options now (asks_of old) (asks_of mid) keeps.asks keeps.led memory in
        let failed : List Query = failed_questions keeps.asks in
        let before = h.cache (unchanged-before first (asks_of old).link.history (asks_of mid).link.history stays.added unchanged) in
        let each = each-ask (IsAnsweredBy origin (asks_of mid).link.history) now keeps.asks led.1 in
        let kept = keeps.keeps
        (record {
          bear = λ n d less. ask-bears chains origin options (always first.zone.rows) failed zones old.client.cache.config (told_by old) now
              (slice_index_or keeps.asks n d)
              (answered-always unchanged (slice_index_or keeps.asks n d) (each n d less) (since n d less)) (reasons.reasons n d less);
          typed = typed;
        })
        (by-state first (λ c b. CacheStands c b origin (always first.zone.rows) now old.client.cache) old h
        (subst (λ (t : ℕ). CacheStands config preserves origin (always first.zone.rows) t old.client.cache) at before)) in
        (kept.0, (failed, counted-all (asks_of old).faults (length failed) (asks_of mid).faults reasons.counted, kept.1))

    has-looked : HasLooked first old mid (IsSteady config preserves)
    has-looked = record {
      has = record {
        faithful = stays.faithful;
        good = h.good;
        moment = h.moment;
        current = h.current;
        added = added;
        cache = λ unchanged.
            subst (λ (t : ℕ). CacheStands config preserves origin (always first.zone.rows) t mid.client.cache) (sym at-mid)
            (by-run first (λ c b. CacheStands c b origin (always first.zone.rows) now mid.client.cache) old h (looked unchanged).0);
        config_is = keeps.config ∙ h.config_is;
        settings_is = same ∙ h.settings_is;
        aliases_is = keeps.aliases ∙ h.aliases_is;
      };
      moment_is = stays.moment_is;
      stands = λ unchanged.
          by-run first (λ c b. IsSteady c b) old h (looked unchanged).1;
    }

  -- ---- the reply to an event

  pub record HasReplied (first : Past) (at : ℕ) (action : Action) (reply : EventReply) (old mid : RunState) : Type 0 where
    pub has : Has first mid
    pub moment_is : (asks_of mid).link.moment ≡ (asks_of old).link.moment
    pub stands : IsUnchanged first (asks_of mid).link.history
        → IsStandingReply config origin (always first.zone.rows) settings (asks_of mid).faults at action reply

  looked-up : (first : Past) (at : ℕ) (name : DomainName) (kind : RecordType) (found : Reply) (old mid : RunState)
      (later : List (ℕ × Query)) → Has first old → (asks_of old).link.moment ≡ at → ResolvesName AsksServer at (Ok name) kind old found mid
      → (asks_of mid).link.out_of_memory ≡ false → HasNoReuse ((asks_of mid).sent ++ later)
      → HasReplied first at (actions.Lookup name kind) (replies.Lookup found) old mid
  looked-up first at name kind found old mid later h moment resolves memory once =
      let c : TtlConfigContent = old.client.cache.config in
      let b : Bool = old.client.preserve_intermediates in
      let history : List Version = always first.zone.rows in
      let l = has-looked first at old mid later h moment resolves.settings memory once
      (λ asks. LooksUp old.settings at asks (Ok name) kind tt found tt)
      (name-keeps AsksServer at old mid (HasNoMinima c) (HasNoNegativeMinima c) (longest_of c) _ _ _
      (λ asks q at error. FailsIndeed b origin (request_options old.settings.options) history (failed_questions asks) q at error)
      (λ depth q. IsDeep b history at depth q) (finds-outlast c b history)
      (lacks-outlast c b origin history) (special-hold c b origin history) (deep-first b history at) (own-least c) round (Ok name) kind found resolves.lookup) in
      record {
        has = l.has;
        moment_is = l.moment_is;
        stands = λ unchanged.
            subst
            (λ (s : Settings). (failed : List Query) × AreCounted failed (asks_of mid).faults
            × LooksUp s at (ByStanding config preserves origin (request_options s.options) history failed at) (Ok name) kind tt found tt)
            h.settings_is (l.stands unchanged);
      }

  looked-up-host : (first : Past) (at : ℕ) (host : _) (found : Reply) (old mid : RunState) (later : List (ℕ × Query))
      → Has first old → (asks_of old).link.moment ≡ at
      → ResolvesHost AsksServer at (IsTextOf (string_bytes host)) (name_of_text (string_bytes host)) old found mid
      → (asks_of mid).link.out_of_memory ≡ false → HasNoReuse ((asks_of mid).sent ++ later)
      → HasReplied first at (actions.LookupIp host) (replies.LookupIp found) old mid
  looked-up-host first at host found old mid later h moment resolves memory once =
      let c : TtlConfigContent = old.client.cache.config in
      let b : Bool = old.client.preserve_intermediates in
      let history : List Version = always first.zone.rows in
      let name : Result DomainName ParseError = name_of_text (string_bytes host) in
      let l = has-looked first at old mid later h moment resolves.settings memory once
      (λ asks. LooksUpHost old.settings at asks resolves.address name tt found tt)
      (host-keeps AsksServer at old mid (HasNoMinima c) (HasNoNegativeMinima c) (longest_of c) _ _ _
      (λ asks q at error. FailsIndeed b origin (request_options old.settings.options) history (failed_questions asks) q at error)
      (λ depth q. IsDeep b history at depth q) (finds-outlast c b history)
      (lacks-outlast c b origin history) (special-hold c b origin history) (deep-first b history at) (own-least c) round resolves.address name found resolves.lookup) in
      record {
        has = l.has;
        moment_is = l.moment_is;
        stands = λ unchanged.
            (let looks =
            subst
            (λ (s : Settings). (failed : List Query) × AreCounted failed (asks_of mid).faults
            × LooksUpHost s at (ByStanding config preserves origin (request_options s.options) history failed at) resolves.address name tt found tt)
            h.settings_is (l.stands unchanged) in
            (resolves.address, resolves.is_address, looks.0, looks.1, looks.2));
      }

  -- ---- other events

  -- other entries in the cache
  has-cleared : (first : Past) (old mid : RunState) (cache : CacheContent) → Has first old
      → (CacheStands config preserves origin (always first.zone.rows) (asks_of old).link.moment old.client.cache
      → CacheStands config preserves origin (always first.zone.rows) (asks_of old).link.moment cache) → cache.config ≡ old.client.cache.config
      → mid ≡ record old { client = record old.client { cache = cache } } → Has first mid
  has-cleared first old mid cache h fewer same is =
      subst (Has first) (sym is)
      (record {
        faithful = h.faithful;
        good = h.good;
        moment = h.moment;
        current = h.current;
        added = h.added;
        cache = λ unchanged. fewer (h.cache unchanged);
        config_is = same ∙ h.config_is;
        settings_is = h.settings_is;
        aliases_is = h.aliases_is;
      })

  cleared : (first : Past) (name : DomainName) (kind : RecordType) (done : Result (Unit {0}) NetError) (old mid : RunState) → Has first old
      → Clears name kind old done mid → Has first mid × ((asks_of mid).link.moment ≡ (asks_of old).link.moment)
  cleared first name kind (Ok done) old mid h clears = (
    has-cleared first old mid _ h
        (λ stands. held-cleared (HasNoMinima config) (HasNoNegativeMinima config) (longest_of config) _ _ (asks_of old).link.moment old.client.cache
        old.settings (Ok name) kind stands) refl clears,
    ap (λ (s : RunState). (asks_of s).link.moment) clears,
  )
  cleared first name kind (Err net.Memory) old mid h clears =
      (subst (Has first) (sym clears) h, ap (λ (s : RunState). (asks_of s).link.moment) clears)
  cleared first name kind (Err (net.Dns e)) old mid h clears = absurd clears
  cleared first name kind (Err (net.Proto e)) old mid h clears = absurd clears
  cleared first name kind (Err (net.Message e)) old mid h clears = absurd clears
  cleared first name kind (Err (net.Link e)) old mid h clears = absurd clears
  cleared first name kind (Err net.Unsupported) old mid h clears = absurd clears

  -- a full clear: from here on, the zone is that of now
  all-cleared : (first : Past) (old : RunState) → Has first old
      → Has (past_of (asks_of old).link) (record old { client = record old.client { cache = record old.client.cache { entries = [] } } })
  all-cleared first old h = record {
    faithful = h.faithful;
    good = subst (λ (o : DomainName). IsZone (zone_with o (asks_of old).link.zone.rows)) h.faithful.history.origin_is h.faithful.history.zone;
    moment = (asks_of old).link.moment;
    current = h.faithful.history.current;
    added = ([], sym (append-nil (asks_of old).link.history));
    cache = λ unchanged.
        held-empty (HasNoMinima config) (HasNoNegativeMinima config) (longest_of config) _ _ (asks_of old).link.moment old.client.cache;
    config_is = h.config_is;
    settings_is = h.settings_is;
    aliases_is = h.aliases_is;
  }

  updated : (first : Past) (update : Message) (reply : Result ResponseCode NetError) (old mid : RunState) → Has first old
      → Updates (λ asks update reply after. UpdateZone asks update reply after) update old reply mid
      → (asks_of mid).link.out_of_memory ≡ false → Has first mid × ((asks_of mid).link.moment ≡ (asks_of old).link.moment)
  updated first update reply old mid h updates memory =
      by (update-stays keep origin (asks_of old) h.faithful update updates.sound reply (asks_of mid) updates.sent)
    where
      by : StaysFaithfulUnlessOut origin (asks_of old) (asks_of mid) → Has first mid × ((asks_of mid).link.moment ≡ (asks_of old).link.moment)
      by (inl out) = absurd (true≢false (sym out ∙ memory))
      by (inr stays) = (subst (Has first) (sym updates.rest) (has-after first old (asks_of mid) h stays), stays.moment_is)

  replied : (first : Past) (at : ℕ) (action : Action) (reply : EventReply) (old mid : RunState) (later : List (ℕ × Query)) → Has first old
      → (asks_of old).link.moment ≡ at → RepliesByZone old at action reply mid → (asks_of mid).link.out_of_memory ≡ false
      → HasNoReuse ((asks_of mid).sent ++ later)
      → HasReplied (past_since action first (past_of (asks_of old).link)) at action reply old mid
  replied first at (actions.Lookup name kind) (replies.Lookup found) old mid later h moment r memory once =
      looked-up first at name kind found old mid later h moment r memory once
  replied first at (actions.LookupIp host) (replies.LookupIp found) old mid later h moment r memory once =
      looked-up-host first at host found old mid later h moment r memory once
  replied first at (actions.Clear name kind) (replies.Cleared done) old mid later h moment r memory once =
      let c = cleared first name kind done old mid h r in
      record { has = c.0; moment_is = c.1; stands = λ unchanged. tt }
  replied first at actions.ClearAll (replies.Cleared done) old mid later h moment r memory once = record {
    has = subst (Has (past_of (asks_of old).link)) (sym r.1) (all-cleared first old h);
    moment_is = ap (λ (s : RunState). (asks_of s).link.moment) r.1;
    stands = λ unchanged. tt;
  }
  replied first at (actions.Update update) (replies.Update reply) old mid later h moment r memory once =
      let u = updated first update.value reply old mid h r memory in
      record { has = u.0; moment_is = u.1; stands = λ unchanged. tt }
  replied first at action reply old mid later h moment r memory once = absurd r

  -- ---- one event

  pub record HasStepped (first : Past) (e : Event) (report : EventReport) (old new : RunState) : Type 0 where
    pub has : Has (past_since e.action first (past_of (asks_of old).link)) new
    pub moment_is : (asks_of new).link.moment ≡ e.at
    pub stands : IsSteadyEvent config origin settings (past_since e.action first (past_of (asks_of old).link)) (past_of (asks_of new).link) e report

  stepped : (first : Past) (e : Event) (report : EventReport) (old new : RunState) (later : List (ℕ × Query)) → Has first old
      → (asks_of old).link.moment ≤ e.at → Step old e report new → HasNoReuse ((asks_of new).sent ++ later)
      → HasStepped first e report old new
  stepped first e report old new later h less step once =
      let b = begun first (update_of e.action) e.at e.script old h less in
      let sent : (asks_of new).sent ≡ (asks_of step.mid).sent = ap (λ (s : RunState). (asks_of s).sent) step.ends in
      let since : Past = past_since e.action first (past_of (asks_of (begin_event e old)).link) in
      let is : since ≡ past_since e.action first (past_of (asks_of old).link) =
      past-begun e.action first e.at e.script (asks_of old) in
      let r : HasReplied since e.at e.action report.reply (begin_event e old) step.mid =
      replied first e.at e.action report.reply (begin_event e old) step.mid later b.0 b.1 step.replies (mid-memory old e report new step)
      (subst (λ (s : List (ℕ × Query)). HasNoReuse (s ++ later)) sent once) in
      let stays = end-faithful keep origin (asks_of step.mid) r.has.faithful in
      let more : Extends (asks_of step.mid).link.history (asks_of new).link.history =
      (stays.added.0, ap (λ (s : RunState). (asks_of s).link.history) step.ends ∙ stays.added.1) in
      record {
        has = subst (λ (p : Past). Has p new) is
            (subst (Has since) (sym step.ends) (has-after since step.mid (end (asks_of step.mid)) r.has stays));
        moment_is = ap (λ (s : RunState). (asks_of s).link.moment) step.ends ∙ stays.moment_is ∙ r.moment_is ∙ b.1;
        stands = subst (λ (p : Past). IsSteadyEvent config origin settings p (past_of (asks_of new).link) e report) is
            (λ unchanged.
            subst (λ (n : ℕ). IsStandingReply config origin (always since.zone.rows) settings n e.at e.action report.reply)
            (sym (ap (λ (s : RunState). (asks_of s).faults) step.ends) ∙ sym step.faults)
            (r.stands (unchanged-before since (asks_of step.mid).link.history (asks_of new).link.history more unchanged)));
      }

  -- ---- all events

  pub events-steady : (first : Past) (old last : RunState) (events : List Event) (reports : List EventReport) (states : List RunState)
      (occasions : List Occasion) → Has first old → InOrder (asks_of old).link.moment events → Runs old events reports states last
      → HasNoReuse (asks_of last).sent → MakePasts (past_of (asks_of old).link) states occasions
      → AreSteadyEvents config origin settings first (past_of (asks_of old).link) events reports occasions
  events-steady first old last [] [] [] [] h order runs once pasts = tt
  events-steady first old last (e ∷ events) (report ∷ reports) (state ∷ states) (o ∷ occasions) h order runs once pasts =
      let more = runs-extend state last events reports states runs.1 in
      let s = stepped first e report old state more.0 h order.0 runs.0 (subst HasNoReuse more.1 once) in
      let since : Past = past_since e.action first (past_of (asks_of old).link) in
      let rest = events-steady since state last events reports states occasions s.has
      (subst (λ (t : ℕ). InOrder t events) (sym s.moment_is) order.2) runs.1 once
      (subst (λ (p : Past). MakePasts p states occasions) (sym pasts.0) pasts.1) in
      subst (λ (p : Past). IsSteadyEvent config origin settings since p e report
      × AreSteadyEvents config origin settings since p events reports occasions)
      pasts.0 (s.stands, rest)
  events-steady first old last [] [] [] (o ∷ occasions) h order runs once pasts = absurd pasts
  events-steady first old last [] [] (state ∷ states) occasions h order runs once pasts = absurd runs
  events-steady first old last [] (report ∷ reports) states occasions h order runs once pasts = absurd runs
  events-steady first old last (e ∷ events) [] states occasions h order runs once pasts = absurd runs
  events-steady first old last (e ∷ events) (report ∷ reports) [] occasions h order runs once pasts = absurd runs
  events-steady first old last (e ∷ events) (report ∷ reports) (state ∷ states) [] h order runs once pasts = absurd pasts

-- ---- runs

pub steady-run : UpdatesKeepZones → ((zone : ZoneContent) (q : Query) → IsChain zone.rows q.query_type q.name (answer zone q).answers)
    → ((number : ℕ) → type_number (type_of number) ≡ number) → (content : WorldContent) (first last : RunState) (events : List Event)
    (reports : List EventReport) (states : List RunState) (occasions : List Occasion) → IsZone content.zone
    → IsFirst content.zone content.limit content.ids content.config content.options content.hosts first
    → InOrder 0 events → Runs first events reports states last → MakePasts (first_past content.zone) states occasions
    → HasNoReuse (asks_of last).sent → AreSteady content events reports occasions
steady-run keep chains round content first last events reports states occasions zone begins order runs pasts once =
    let origin : DomainName = content.zone.origin in
    let ttls : TtlConfigContent = ttls_of content in
    let past : past_of (asks_of first).link ≡ first_past content.zone = ap (λ (a : AskState). past_of a.link) begins.asks in
    subst (λ (p : Past). AreSteadyEvents ttls origin (settings_of content) (first_past content.zone) p events reports occasions) past
    (events-steady keep chains round origin ttls (settings_of content) (first_past content.zone) first last events reports states occasions
    (record {
      faithful = subst (IsFaithful origin) (sym begins.asks) (first-faithful content.zone content.limit content.ids zone);
      good = zone;
      moment = 0;
      current = record { before = []; since = 0; split = refl; begun = omega arith };
      added = ([], ap (λ (a : AskState). a.link.history) begins.asks);
      cache = λ unchanged.
          subst (λ (c : CacheContent). CacheStands ttls content.options.preserve_intermediates origin (always content.zone.rows) (asks_of first).link.moment c) (sym begins.cache)
          (held-empty (HasNoMinima ttls) (HasNoNegativeMinima ttls) (longest_of ttls) _ _ (asks_of first).link.moment (empty_cache content.options));
      config_is = ap (λ (c : CacheContent). c.config) begins.cache;
      settings_is = begins.settings;
      aliases_is = begins.aliases;
    })
    (subst (λ (a : AskState). InOrder a.link.moment events) (sym begins.asks) order) runs once
    (subst (λ (p : Past). MakePasts p states occasions) (sym past) pasts))
