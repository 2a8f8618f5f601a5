-- Event by event, each answer of a run has a source.
use Rattle.std.proofs.Common.{◌≡◌, ℕ, ◌≤◌, ◌++◌, List, [], ◌∷◌, Result, Ok, Err, Bool, false, All, refl, sym, ap, subst, ◌∙◌, slice_index_or, inl, inr, arith, Option, Some, None}
use Rattle.std.specs.Prelude.{string_bytes}
use Rattle.std.proofs.lemmas.Bool.{true≢false}
use Rattle.dns_wire.specs.declared.codes.record_type.RecordType.{RecordType}
use Rattle.dns_names.specs.Name.{DomainName}
use Rattle.dns_names.specs.Parse.{name_of_text}
use Rattle.dns_names.specs.declared.error.ParseError.{ParseError}
use Rattle.dns_text.specs.Address.{IsTextOf}
use Rattle.dns_messages.specs.declared.message.Message.{Message}
use Rattle.dns_messages.specs.declared.query.Query.{Query}
use Rattle.dns_messages.specs.declared.response_code.ResponseCode.{ResponseCode}
use Rattle.dns_zone.specs.Answer.{IsChain, answer}
use Rattle.dns_zone.specs.Rows.{IsZone, ZoneContent}
use Rattle.stub_lookup.specs.declared.error.NetError.{NetError}
use Rattle.stub_lookup.specs.declared.error.NetError.TheVariants as net
use Rattle.stub_cache.specs.Cache.{CacheContent}
use Rattle.stub_cache.specs.Ttl.{TtlConfigContent}
use Rattle.stub_client.specs.Handle.{Ask, Led}
use Rattle.stub_client.specs.Looks.{Reply}
use Rattle.stub_client.specs.Origins.{asked_at}
use Rattle.stub_core.specs.Attempts.{Lookups}
use Rattle.stub_core.specs.Resolver.{LooksUp, LooksUpHost, ResolvesHost, ResolvesName, request_options, with_handle}
use Rattle.stub_core.specs.ResolverBuilder.{empty_cache}
use Rattle.stub_core.specs.declared.resolver.settings.Settings.{Settings}
use Rattle.stub_link.specs.AskState.{AskState, UpdateZone, begin, begin_with_update, end}
use Rattle.stub_link.specs.LinkState.{Version}
use Rattle.stub_link.specs.declared.link.script.Script.{Script}
use Rattle.stub_laws.specs.history.Answered.{IsAnsweredBy}
use Rattle.stub_laws.specs.history.Faithful.{HasNoReuse, IsFaithful, StaysFaithful, StaysFaithfulUnlessOut}
use Rattle.stub_laws.specs.answers.Sources.{BySources, CacheHasSources, KeepsSources}
use Rattle.stub_laws.proofs.EventLaws.{begin-faithful, begin-update-faithful, end-faithful, first-faithful}
use Rattle.stub_laws.proofs.FaithfulLaws.{update-stays}
use Rattle.stub_laws.proofs.LedLaws.{led-holds}
use Rattle.stub_laws.proofs.ServeLaws.{UpdatesKeepZones}
use Rattle.stub_laws.proofs.SourcesLaws.{host-has-sources, name-has-sources, sources-cleared, sources-empty, sources-later, sources-on}
use Rattle.stub_run.specs.AtReplies.{HasReplySources, HaveSourcesAtReplies, HoldsOfSteps, versions_in}
use Rattle.stub_run.specs.Event.{update_of}
use Rattle.stub_run.specs.Headline.{WorldContent, settings_of, ttls_of}
use Rattle.stub_run.specs.Run.{Clears, InOrder, RepliesByZone, RunState, Runs, Step, Updates, asks_of, begin_asks, begin_event, end_event}
use Rattle.stub_run.specs.World.{IsFirst}
use Rattle.stub_run.specs.declared.event.Action.{Action}
use Rattle.stub_run.specs.declared.event.Action.TheVariants as actions
use Rattle.stub_run.specs.declared.event.Event.{Event}
use Rattle.stub_run.specs.declared.report.EventReply.{EventReply}
use Rattle.stub_run.specs.declared.report.EventReply.TheVariants as replies
use Rattle.stub_run.specs.declared.report.EventReport.{EventReport}
use Rattle.stub_run.proofs.Growing.{runs-extend}
use Rattle.stub_run.proofs.Happening.{AsksServer}
use Rattle.stub_run.proofs.RunLaws.{mid-memory}
use Rattle.stub_run.proofs.WholeRuns.{each-ask}

module _ (keep : UpdatesKeepZones) (chains : (zone : ZoneContent) (q : Query) → IsChain zone.rows q.query_type q.name (answer zone q).answers)
    (origin : DomainName) (config : TtlConfigContent) (settings : Settings) where
  -- whether intermediate aliases are preserved
  abbrev preserves : Bool
  preserves = settings.options.preserve_intermediates

  -- a state: what its cache has, has sources
  pub record Has (state : RunState) : Type 0 where
    pub faithful : IsFaithful origin (asks_of state)
    pub cache : CacheHasSources config preserves (asks_of state).link.history (asks_of state).link.moment state.client.cache
    pub config_is : state.client.cache.config ≡ config
    pub settings_is : state.settings ≡ settings

  -- the handle has come to other asks, and what stood still stands
  has-after : (old : RunState) (asks : AskState) → Has old → StaysFaithful origin (asks_of old) asks → Has (with_handle old asks)
  has-after old asks h s = record {
    faithful = s.faithful;
    cache = subst (λ (t : ℕ). CacheHasSources config preserves asks.link.history t old.client.cache) (sym s.moment_is)
        (sources-on config preserves (asks_of old).link.history asks.link.history (asks_of old).link.moment old.client.cache s.stands h.cache);
    config_is = h.config_is;
    settings_is = h.settings_is;
  }

  -- ---- an event begins

  has-begun : (moment : ℕ) (old : RunState) (asks : AskState) → Has old → IsFaithful origin asks
      → asks.link.history ≡ (asks_of old).link.history → asks.link.moment ≡ moment → (asks_of old).link.moment ≤ moment
      → Has (with_handle old asks)
  has-begun moment old asks h faithful same at less = record {
    faithful = faithful;
    cache = subst (λ (vs : List Version). CacheHasSources config preserves vs asks.link.moment old.client.cache) (sym same)
        (sources-later config preserves (asks_of old).link.history (asks_of old).link.moment asks.link.moment old.client.cache (omega (arith, at)) h.cache);
    config_is = h.config_is;
    settings_is = h.settings_is;
  }

  begun : (update : Option Message) (at : ℕ) (script : Script) (old : RunState) → Has old → (asks_of old).link.moment ≤ at
      → Has (with_handle old (begin_asks update at script (asks_of old)))
      × ((begin_asks update at script (asks_of old)).link.moment ≡ at)
  begun None at script old h less =
      (has-begun at old (begin at script (asks_of old)) h (begin-faithful origin at script (asks_of old) less h.faithful) refl refl less, refl)
  begun (Some update) at script old h less = (
    has-begun at old (begin_with_update at script (asks_of old)) h (begin-update-faithful origin at script (asks_of old) less h.faithful) refl refl
        less,
    refl,
  )

  -- ---- a lookup

  pub record HasLooked (old mid : RunState) (looks : Type 0) : Type 0 where
    pub has : Has mid
    pub moment_is : (asks_of mid).link.moment ≡ (asks_of old).link.moment
    pub sources : looks

  module _ (now : ℕ) (old mid : RunState) (later : List (ℕ × Query)) (h : Has old) (at : (asks_of old).link.moment ≡ now)
      (same : mid.settings ≡ old.settings) (memory : (asks_of mid).link.out_of_memory ≡ false) (once : HasNoReuse ((asks_of mid).sent ++ later))
      (looks : Lookups (Unit {0}) Query → Type 0) (keeps : KeepsSources origin (asks_of mid).link.history AsksServer now old mid looks) where
    led : StaysFaithful origin (asks_of old) (asks_of mid) × All (IsAnsweredBy origin (asks_of mid).link.history) (asked_at now keeps.asks)
    led = led-holds (request_options old.settings.options) now keep origin (asks_of old) (asks_of mid) keeps.asks later h.faithful at keeps.led memory once

    answered : All (λ ask. IsAnsweredBy origin (asks_of mid).link.history (record { moment = now; ask = ask })) keeps.asks
    answered = each-ask (IsAnsweredBy origin (asks_of mid).link.history) now keeps.asks led.1

    before : CacheHasSources config preserves (asks_of mid).link.history now old.client.cache
    before =
        subst (λ (t : ℕ). CacheHasSources config preserves (asks_of mid).link.history t old.client.cache) at
        (sources-on config preserves (asks_of old).link.history (asks_of mid).link.history (asks_of old).link.moment old.client.cache led.0.stands h.cache)

    after : CacheHasSources config preserves (asks_of mid).link.history now mid.client.cache × looks (BySources config preserves (asks_of mid).link.history now)
    after =
        subst
        (λ (c : TtlConfigContent). CacheHasSources c preserves (asks_of mid).link.history now old.client.cache
        → CacheHasSources c preserves (asks_of mid).link.history now mid.client.cache × looks (BySources c preserves (asks_of mid).link.history now))
        h.config_is (keeps.keeps preserves led.0.faithful.history.versions answered) before

    has-looked : HasLooked old mid (looks (BySources config preserves (asks_of mid).link.history now))
    has-looked =
        let at-mid : (asks_of mid).link.moment ≡ now = led.0.moment_is ∙ at in
        record {
          has = record {
            faithful = led.0.faithful;
            cache = subst (λ (t : ℕ). CacheHasSources config preserves (asks_of mid).link.history t mid.client.cache) (sym at-mid) after.0;
            config_is = keeps.config ∙ h.config_is;
            settings_is = same ∙ h.settings_is;
          };
          moment_is = led.0.moment_is;
          sources = after.1;
        }

  -- ---- the reply to an event

  pub record HasReplied (at : ℕ) (action : Action) (reply : EventReply) (old mid : RunState) : Type 0 where
    pub has : Has mid
    pub moment_is : (asks_of mid).link.moment ≡ (asks_of old).link.moment
    pub sources : HasReplySources config (versions_in mid) settings at action reply

  looked-up : (at : ℕ) (name : DomainName) (kind : RecordType) (found : Reply) (old mid : RunState) (later : List (ℕ × Query))
      → Has old → (asks_of old).link.moment ≡ at → ResolvesName AsksServer at (Ok name) kind old found mid
      → (asks_of mid).link.out_of_memory ≡ false → HasNoReuse ((asks_of mid).sent ++ later)
      → HasReplied at (actions.Lookup name kind) (replies.Lookup found) old mid
  looked-up at name kind found old mid later h moment resolves memory once =
      let l = has-looked at old mid later h moment resolves.settings memory once (λ asks. LooksUp old.settings at asks (Ok name) kind tt found tt)
      (name-has-sources chains origin (asks_of mid).link.history AsksServer at old mid (Ok name) kind found resolves.lookup) in
      record {
        has = l.has;
        moment_is = l.moment_is;
        sources = subst (λ (s : Settings). LooksUp s at (BySources config preserves (asks_of mid).link.history at) (Ok name) kind tt found tt) h.settings_is
            l.sources;
      }

  looked-up-host : (at : ℕ) (host : _) (found : Reply) (old mid : RunState) (later : List (ℕ × Query))
      → Has old → (asks_of old).link.moment ≡ at
      → ResolvesHost AsksServer at (IsTextOf (string_bytes host)) (name_of_text (string_bytes host)) old found mid
      → (asks_of mid).link.out_of_memory ≡ false → HasNoReuse ((asks_of mid).sent ++ later)
      → HasReplied at (actions.LookupIp host) (replies.LookupIp found) old mid
  looked-up-host at host found old mid later h moment resolves memory once =
      let name : Result DomainName ParseError = name_of_text (string_bytes host) in
      let l = has-looked at old mid later h moment resolves.settings memory once
      (λ asks. LooksUpHost old.settings at asks resolves.address name tt found tt)
      (host-has-sources chains origin (asks_of mid).link.history AsksServer at old mid resolves.address name found resolves.lookup) in
      record {
        has = l.has;
        moment_is = l.moment_is;
        sources = (
          resolves.address,
          resolves.is_address,
          subst (λ (s : Settings). LooksUpHost s at (BySources config preserves (asks_of mid).link.history at) resolves.address name tt found tt) h.settings_is
              l.sources,
        );
      }

  -- other entries in the cache
  has-cleared : (old mid : RunState) (cache : CacheContent) → Has old
      → CacheHasSources config preserves (asks_of old).link.history (asks_of old).link.moment cache → cache.config ≡ old.client.cache.config
      → mid ≡ record old { client = record old.client { cache = cache } } → Has mid
  has-cleared old mid cache h kept same is =
      subst Has (sym is)
      (record { faithful = h.faithful; cache = kept; config_is = same ∙ h.config_is; settings_is = h.settings_is })

  cleared : (name : DomainName) (kind : RecordType) (done : Result (Unit {0}) NetError) (old mid : RunState) → Has old
      → Clears name kind old done mid → Has mid × ((asks_of mid).link.moment ≡ (asks_of old).link.moment)
  cleared name kind (Ok done) old mid h clears = (
    has-cleared old mid _ h
        (sources-cleared config preserves (asks_of old).link.history (asks_of old).link.moment old.client.cache old.settings (Ok name) kind h.cache) refl clears,
    ap (λ (s : RunState). (asks_of s).link.moment) clears,
  )
  cleared name kind (Err net.Memory) old mid h clears =
      (subst Has (sym clears) h, ap (λ (s : RunState). (asks_of s).link.moment) clears)
  cleared name kind (Err (net.Dns e)) old mid h clears = absurd clears
  cleared name kind (Err (net.Proto e)) old mid h clears = absurd clears
  cleared name kind (Err (net.Message e)) old mid h clears = absurd clears
  cleared name kind (Err (net.Link e)) old mid h clears = absurd clears
  cleared name kind (Err net.Unsupported) old mid h clears = absurd clears

  updated : (update : Message) (reply : Result ResponseCode NetError) (old mid : RunState) → Has old
      → Updates (λ asks update reply after. UpdateZone asks update reply after) update old reply mid
      → (asks_of mid).link.out_of_memory ≡ false → Has mid × ((asks_of mid).link.moment ≡ (asks_of old).link.moment)
  updated update reply old mid h updates memory =
      by (update-stays keep origin (asks_of old) h.faithful update updates.sound reply (asks_of mid) updates.sent)
    where
      by : StaysFaithfulUnlessOut origin (asks_of old) (asks_of mid) → Has mid × ((asks_of mid).link.moment ≡ (asks_of old).link.moment)
      by (inl out) = absurd (true≢false (sym out ∙ memory))
      by (inr stays) = (subst Has (sym updates.rest) (has-after old (asks_of mid) h stays), stays.moment_is)

  replied : (at : ℕ) (action : Action) (reply : EventReply) (old mid : RunState) (later : List (ℕ × Query)) → Has old
      → (asks_of old).link.moment ≡ at → RepliesByZone old at action reply mid → (asks_of mid).link.out_of_memory ≡ false
      → HasNoReuse ((asks_of mid).sent ++ later) → HasReplied at action reply old mid
  replied at (actions.Lookup name kind) (replies.Lookup found) old mid later h moment r memory once =
      looked-up at name kind found old mid later h moment r memory once
  replied at (actions.LookupIp host) (replies.LookupIp found) old mid later h moment r memory once =
      looked-up-host at host found old mid later h moment r memory once
  replied at (actions.Clear name kind) (replies.Cleared done) old mid later h moment r memory once =
      let c = cleared name kind done old mid h r in
      record { has = c.0; moment_is = c.1; sources = tt }
  replied at actions.ClearAll (replies.Cleared done) old mid later h moment r memory once = record {
    has = has-cleared old mid _ h (sources-empty config preserves (asks_of old).link.history (asks_of old).link.moment old.client.cache) refl r.1;
    moment_is = ap (λ (s : RunState). (asks_of s).link.moment) r.1;
    sources = tt;
  }
  replied at (actions.Update update) (replies.Update reply) old mid later h moment r memory once =
      let u = updated update.value reply old mid h r memory in
      record { has = u.0; moment_is = u.1; sources = tt }
  replied at action reply old mid later h moment r memory once = absurd r

  -- ---- one event

  pub record HasStepped (e : Event) (reply : EventReply) (mid new : RunState) : Type 0 where
    pub has : Has new
    pub moment_is : (asks_of new).link.moment ≡ e.at
    pub sources : HasReplySources config (versions_in mid) settings e.at e.action reply

  stepped : (e : Event) (report : EventReport) (old new : RunState) (later : List (ℕ × Query)) → Has old
      → (asks_of old).link.moment ≤ e.at → (step : Step old e report new) → HasNoReuse ((asks_of new).sent ++ later)
      → HasStepped e report.reply step.mid new
  stepped e report old new later h less step once =
      let b = begun (update_of e.action) e.at e.script old h less in
      let sent : (asks_of new).sent ≡ (asks_of step.mid).sent = ap (λ (s : RunState). (asks_of s).sent) step.ends in
      let r = replied e.at e.action report.reply (begin_event e old) step.mid later b.0 b.1 step.replies (mid-memory old e report new step)
      (subst (λ (s : List (ℕ × Query)). HasNoReuse (s ++ later)) sent once) in
      let stays = end-faithful keep origin (asks_of step.mid) r.has.faithful in
      let last : Has (end_event step.mid) = has-after step.mid (end (asks_of step.mid)) r.has stays in
      record {
        has = subst Has (sym step.ends) last;
        moment_is = ap (λ (s : RunState). (asks_of s).link.moment) step.ends ∙ stays.moment_is ∙ r.moment_is ∙ b.1;
        sources = r.sources;
      }

  -- ---- all events

  pub replies-have-sources : (first last : RunState) (events : List Event) (reports : List EventReport) (states : List RunState) → Has first
      → InOrder (asks_of first).link.moment events → (runs : Runs first events reports states last) → HasNoReuse (asks_of last).sent
      → HoldsOfSteps (λ old e report new step. HasReplySources config (versions_in step.mid) settings e.at e.action report.reply)
      first events reports states last runs
  replies-have-sources first last (e ∷ events) (report ∷ reports) (state ∷ states) h order runs once =
      let more = runs-extend state last events reports states runs.1 in
      let s = stepped e report first state more.0 h order.0 runs.0 (subst HasNoReuse more.1 once) in (
        s.sources,
        replies-have-sources state last events reports states s.has (subst (λ (t : ℕ). InOrder t events) (sym s.moment_is) order.2) runs.1 once,
      )
  replies-have-sources first last [] [] [] h order runs once = tt
  replies-have-sources first last [] [] (state ∷ states) h order runs once = tt
  replies-have-sources first last [] (report ∷ reports) states h order runs once = tt
  replies-have-sources first last (e ∷ events) [] states h order runs once = tt
  replies-have-sources first last (e ∷ events) (report ∷ reports) [] h order runs once = tt

-- ---- runs

pub sources-run : UpdatesKeepZones → ((zone : ZoneContent) (q : Query) → IsChain zone.rows q.query_type q.name (answer zone q).answers)
    → (content : WorldContent) (first last : RunState) (events : List Event) (reports : List EventReport) (states : List RunState)
    → IsZone content.zone → IsFirst content.zone content.limit content.ids content.config content.options content.hosts first
    → InOrder 0 events → (runs : Runs first events reports states last) → HasNoReuse (asks_of last).sent
    → HaveSourcesAtReplies content first events reports states last runs
sources-run keep chains content first last events reports states zone begins order runs once =
    let origin : DomainName = content.zone.origin in
    let ttls : TtlConfigContent = ttls_of content in
    replies-have-sources keep chains origin ttls (settings_of content) first last events reports states
    (record {
      faithful = subst (IsFaithful origin) (sym begins.asks) (first-faithful content.zone content.limit content.ids zone);
      cache = subst (λ (c : CacheContent). CacheHasSources ttls content.options.preserve_intermediates (asks_of first).link.history (asks_of first).link.moment c) (sym begins.cache)
          (sources-empty ttls content.options.preserve_intermediates (asks_of first).link.history (asks_of first).link.moment (empty_cache content.options));
      config_is = ap (λ (c : CacheContent). c.config) begins.cache;
      settings_is = begins.settings;
    })
    (subst (λ (a : AskState). InOrder a.link.moment events) (sym begins.asks) order) runs once
