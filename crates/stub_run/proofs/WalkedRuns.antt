-- Where the rows of the zone do not change, the lookups of a run return what walks over it come to.
use Rattle.std.proofs.Common.{◌≡◌, ℕ, ◌≤◌, ◌<◌, ◌^◌, ◌++◌, List, [], ◌∷◌, Option, Some, None, Result, Ok, Err, false, All, refl, sym, ap, subst, ◌∙◌, inl, inr, arith}
use Rattle.std.specs.Prelude.{string_bytes}
use Rattle.std.specs.declared.net.ip_addr.IpAddr.{IpAddr}
use Rattle.std.proofs.lemmas.List.{append_assoc, append-nil}
use Rattle.std.proofs.lemmas.List.Elements.{All-nil}
use Rattle.dns_wire.specs.codes.RecordType.{type_number, type_of}
use Rattle.dns_wire.specs.declared.codes.record_type.RecordType.{RecordType}
use Rattle.dns_names.specs.Name.{DomainName}
use Rattle.dns_names.specs.Parse.{Spells, name_of_text}
use Rattle.dns_names.specs.declared.error.ParseError.{ParseError}
use Rattle.dns_messages.specs.declared.message.Message.{Message}
use Rattle.dns_messages.specs.declared.query.Query.{Query}
use Rattle.dns_messages.specs.declared.response_code.ResponseCode.{ResponseCode}
use Rattle.dns_text.specs.Address.{IsTextOf}
use Rattle.dns_zone.specs.Rows.{IsZone, ZoneContent}
use Rattle.stub_lookup.specs.declared.error.NetError.{NetError}
use Rattle.stub_lookup.specs.declared.error.NetError.TheVariants as net
use Rattle.stub_cache.specs.Cache.{CacheContent}
use Rattle.stub_cache.specs.declared.cache.entry.Entry.{Entry}
use Rattle.stub_client.specs.Conclusions.{KeptComesTo}
use Rattle.stub_client.specs.Handle.{Ask, Behavior}
use Rattle.stub_client.specs.Looks.{Reply}
use Rattle.stub_client.specs.declared.caching_client.CachingClient.{CachingClient}
use Rattle.stub_core.specs.Attempts.{Lookups}
use Rattle.stub_core.specs.Origins.{names_of}
use Rattle.stub_core.specs.Resolver.{LooksUp, LooksUpHost, ResolvesHost, ResolvesName, asks_of as asks_of_client, request_options, with_handle}
use Rattle.stub_core.specs.declared.resolver.Resolver.{Resolver}
use Rattle.stub_core.specs.declared.resolver.settings.Settings.{Settings}
use Rattle.stub_core.proofs.ResolvesLaws.{all-cleared_lookup}
use Rattle.stub_core.proofs.StatelessLaws.{looks_up-by, looks_up_host-by}
use Rattle.stub_link.specs.AskState.{AskState, UpdateZone, begin, begin_with_update, end}
use Rattle.stub_link.specs.History.{Occasion, Past, first_past, past_of}
use Rattle.stub_link.specs.LinkState.{Version}
use Rattle.stub_link.specs.Request.{IsUpdate}
use Rattle.stub_laws.specs.history.Answered.{IsAnsweredSince}
use Rattle.stub_laws.specs.history.Faithful.{HasNoReuse, IsCurrent, IsFaithful, StaysFaithful, StaysFaithfulUnlessOut}
use Rattle.stub_laws.specs.history.Stands.{Extends}
use Rattle.stub_laws.proofs.AskLaws.{more-faithful}
use Rattle.stub_laws.proofs.EventLaws.{begin-faithful, begin-update-faithful, end-faithful, first-faithful}
use Rattle.stub_laws.proofs.FaithfulLaws.{ask-stays, update-stays}
use Rattle.stub_laws.proofs.LedLaws.{led-since, stays-then}
use Rattle.stub_laws.proofs.ServeLaws.{UpdatesKeepZones}
use Rattle.stub_laws.specs.walk.Answered.{ComesToWalk, IsAsked, IsWalkedLookup}
use Rattle.stub_laws.specs.walk.Walk.{AgreesWithWalk, AreShortAt, ByWalk, CacheAgrees}
use Rattle.stub_laws.proofs.ResolverLaws.{host-walks, name-walks}
use Rattle.stub_link.specs.declared.link.script.Script.{Script}
use Rattle.stub_run.specs.Event.{update_of}
use Rattle.stub_run.specs.Headline.{WorldContent, settings_of}
use Rattle.stub_run.specs.History.{MakePasts}
use Rattle.stub_run.specs.Questions.{AreAskable, AsksZone, IsAskable, RepliesByQuestions}
use Rattle.stub_run.specs.Run.{Clears, InOrder, RepliesByZone, RunState, Runs, Step, asks_of, begin_asks, begin_event}
use Rattle.stub_run.specs.World.{IsFirst}
use Rattle.stub_run.specs.Walked.{AreWalked, AreWalkedEvents, IsUnchanged, IsWalkedEvent, IsWalkedReply, attempted_by, past_since}
use Rattle.stub_run.specs.declared.event.Action.{Action}
use Rattle.stub_run.specs.declared.event.Action.TheVariants as actions
use Rattle.stub_run.specs.declared.event.Event.{Event}
use Rattle.stub_run.specs.declared.report.EventReply.{EventReply}
use Rattle.stub_run.specs.declared.report.EventReply.TheVariants as replies
use Rattle.stub_run.specs.declared.report.EventReport.{EventReport}
use Rattle.stub_run.proofs.Alike.{replies-keep}
use Rattle.stub_run.proofs.Growing.{past-begun, runs-extend}
use Rattle.stub_run.proofs.Happening.{AsksServer, UpdatesServer}
use Rattle.stub_run.proofs.OutOfMemory.{UnlessOut, asks-keep, update-out, with-memory}
use Rattle.stub_run.proofs.RunLaws.{mid-memory}
use Rattle.stub_run.proofs.Unchanged.{asked-of-zone, led-zone, none-faulted, since-same, unchanged-before}
use Rattle.stub_run.proofs.ZoneQuestions.{event-replies}

-- ---- whether aliases are kept is a setting of a client, which lookups keep

module _ {H : Type 0} (gives : Behavior H) (now : ℕ) (old new : Resolver H) where
  abbrev KeepsAliases : CachingClient H → List Ask → CachingClient H → Type 0
  KeepsAliases before asks after = after.preserve_intermediates ≡ before.preserve_intermediates

  abbrev Anything : List Ask → Unit {0} → Type 0
  Anything asks all = Unit {0}

  abbrev AnyClient : Unit {0} → CachingClient H → Type 0
  AnyClient all client = Unit {0}

  abbrev AnyLookup : Unit {0} → Lookups (Unit {0}) Query
  AnyLookup all before q reply after = Unit {0}

  pub name-aliases : (name : Result DomainName ParseError) (kind : RecordType) (reply : Reply)
      → LooksUp old.settings now (asks_of_client gives now old) name kind old.client reply new.client
      → new.client.preserve_intermediates ≡ old.client.preserve_intermediates
  name-aliases name kind reply h =
      (looks_up-by KeepsAliases Anything AnyClient (λ client. refl) (λ before mid after asks more one two. two ∙ one)
      (λ asks more all fits. tt) (λ asks more all fits. tt) now (asks_of_client gives now old) AnyLookup
      (λ before after q reply answers. ([], answers.settings, λ all fits good. (tt, tt)))
      old.settings name kind old.client new.client reply h).1

  pub host-aliases : (address : Option IpAddr) (name : Result DomainName ParseError) (reply : Reply)
      → LooksUpHost old.settings now (asks_of_client gives now old) address name old.client reply new.client
      → new.client.preserve_intermediates ≡ old.client.preserve_intermediates
  host-aliases address name reply h =
      (looks_up_host-by KeepsAliases Anything AnyClient (λ client. refl) (λ before mid after asks more one two. two ∙ one)
      (λ asks more all fits. tt) (λ asks more all fits. tt) now (asks_of_client gives now old) AnyLookup
      (λ before after q reply answers. ([], answers.settings, λ all fits good. (tt, tt)))
      old.settings address name old.client new.client reply h).1

-- ---- what holds of a state

module _ (keep : UpdatesKeepZones) (round : (number : ℕ) → type_number (type_of number) ≡ number)
    (spells : (text : List ℕ) (name : DomainName) → name_of_text text ≡ Ok name → Spells text name)
    (origin : DomainName) (settings : Settings) (small : settings.options.edns_payload_len < 2 ^ 16) where
  -- A state after a past: what the cache has agrees with walks over the zone of that past, if this has not changed since.
  pub record HasWalked (first : Past) (state : RunState) : Type 0 where
    pub faithful : IsFaithful origin (asks_of state)
    pub good : IsZone first.zone
    pub origin_is : first.zone.origin ≡ origin
    pub moment : ℕ
    pub current : IsCurrent first.history moment first.zone.rows
    pub added : Extends first.history (asks_of state).link.history
    pub cache : IsUnchanged first (asks_of state).link.history → CacheAgrees first.zone state.client.cache
    pub settings_is : state.settings ≡ settings
    pub aliases_is : state.client.preserve_intermediates ≡ false

  -- ---- an event begins

  has-begun : (first : Past) (old : RunState) (asks : AskState) → HasWalked first old → IsFaithful origin asks
      → asks.link.history ≡ (asks_of old).link.history → HasWalked first (with_handle old asks)
  has-begun first old asks h faithful same = record {
    faithful = faithful;
    good = h.good;
    origin_is = h.origin_is;
    moment = h.moment;
    current = h.current;
    added = (h.added.0, same ∙ h.added.1);
    cache = λ unchanged. h.cache (subst (λ (vs : List Version). IsUnchanged first vs) same unchanged);
    settings_is = h.settings_is;
    aliases_is = h.aliases_is;
  }

  begun : (first : Past) (update : Option Message) (at : ℕ) (script : Script) (old : RunState) → HasWalked first old → (asks_of old).link.moment ≤ at
      → HasWalked first (with_handle old (begin_asks update at script (asks_of old)))
      × ((begin_asks update at script (asks_of old)).link.moment ≡ at)
  begun first None at script old h less =
      (has-begun first old (begin at script (asks_of old)) h (begin-faithful origin at script (asks_of old) less h.faithful) refl, refl)
  begun first (Some update) at script old h less = (
    has-begun first old (begin_with_update at script (asks_of old)) h
        (begin-update-faithful origin at script (asks_of old) less h.faithful) refl,
    refl,
  )

  -- ---- the history goes on

  extends-then : (earlier mid history : List Version) → Extends earlier mid → Extends mid history → Extends earlier history
  extends-then earlier mid history one two = (
    one.0 ++ two.0,
    two.1 ∙ ap (λ (vs : List Version). vs ++ two.0) one.1 ∙ append_assoc earlier one.0 two.0,
  )

  more-stays : (first mid new : AskState) → StaysFaithful origin first mid → StaysFaithfulUnlessOut origin mid new
      → UnlessOut (StaysFaithful origin first) new
  more-stays first mid new s (inl out) = inl out
  more-stays first mid new s (inr more) = inr (stays-then origin first mid new s more)

  update-keeps : (first old new : AskState) (update : Message) (reply : Result ResponseCode NetError)
      → UnlessOut (StaysFaithful origin first) old → IsUpdate update → UpdateZone old update reply new
      → UnlessOut (StaysFaithful origin first) new
  update-keeps first old new update reply (inl out) sound (inl stays) = inl stays.1
  update-keeps first old new update reply (inl out) sound (inr sends) = inl (update-out update old reply new sends out)
  update-keeps first old new update reply (inr s) sound sends =
      more-stays first old new s (update-stays keep origin old s.faithful update sound reply new sends)

  -- what an event asks and sends keeps a state faithful
  stays : (old mid : RunState) (at : ℕ) (action : Action) (reply : EventReply) → IsFaithful origin (asks_of old)
      → RepliesByZone old at action reply mid → (asks_of mid).link.out_of_memory ≡ false → StaysFaithful origin (asks_of old) (asks_of mid)
  stays old mid at action reply f told memory =
      let first : AskState = asks_of old in
      with-memory (StaysFaithful origin first) (asks_of mid) memory
      (replies-keep (UnlessOut (StaysFaithful origin first)) AsksServer UpdatesServer
      (λ before after request now outcome held asked. asks-keep (StaysFaithful origin first)
      (λ m was outcome is ask s. more-stays first was is s (ask-stays keep origin was s.faithful m outcome is ask))
      before after request now outcome held asked)
      (λ before after update reply held sound sends. update-keeps first before after update reply held sound sends)
      old mid at action reply (inr (more-faithful origin first first [] refl (sym (append-nil first.sent)) f)) told)

  -- the handle has come to other asks
  has-after : (first : Past) (old : RunState) (asks : AskState) → HasWalked first old → StaysFaithful origin (asks_of old) asks
      → HasWalked first (with_handle old asks)
  has-after first old asks h s = record {
    faithful = s.faithful;
    good = h.good;
    origin_is = h.origin_is;
    moment = h.moment;
    current = h.current;
    added = extends-then first.history (asks_of old).link.history asks.link.history h.added s.added;
    cache = λ unchanged. h.cache (unchanged-before first (asks_of old).link.history asks.link.history s.added unchanged);
    settings_is = h.settings_is;
    aliases_is = h.aliases_is;
  }

  -- ---- a lookup

  abbrev Asking : Behavior AskState
  Asking old request now outcome new = AsksZone old request now outcome new

  -- The questions of a lookup are answered by the zone of a past that has not changed since.
  looked : (first : Past) (now : ℕ) (old mid : RunState) (looks : Type 0) (later : List (ℕ × Query))
      → HasWalked first old → (asks_of old).link.moment ≡ now → StaysFaithful origin (asks_of old) (asks_of mid)
      → (asks_of mid).link.out_of_memory ≡ false → HasNoReuse ((asks_of mid).sent ++ later)
      → ComesToWalk first.zone Asking now old mid looks → IsUnchanged first (asks_of mid).link.history
      → CacheAgrees first.zone old.client.cache
      → CacheAgrees first.zone mid.client.cache × ((asks_of mid).faults ≡ 0 → looks)
  looked first now old mid looks later h at s memory once c unchanged agrees =
      let options = request_options old.settings.options in
      let history : List Version = (asks_of mid).link.history in
      let led = led-zone options now (asks_of old) (asks_of mid) c.asks c.led memory in
      let answered : All (IsAnsweredSince origin first.history history) c.asks =
      led-since options now keep origin first.history (asks_of old) (asks_of mid) c.asks later h.added h.faithful at led memory once in
      let added : Extends first.history history = extends-then first.history (asks_of old).link.history history h.added s.added in
      let asked : All (IsAsked first.zone) c.asks =
      asked-of-zone options now (asks_of old) (asks_of mid) c.asks c.led memory first.zone origin first.history history h.origin_is
      (since-same first history h.moment h.current added unchanged) answered in (
        c.keeps asked agrees,
        λ none. c.walks asked (none-faulted options now (asks_of old) (asks_of mid) c.asks c.led memory none) agrees,
      )

  -- ---- the reply to an event

  -- what an event makes of a state, with what holds of its reply
  pub record HasReplied (first : Past) (at : ℕ) (action : Action) (reply : EventReply) (mid : RunState) : Type 0 where
    pub has : HasWalked first mid
    pub walked : IsUnchanged first (asks_of mid).link.history → AreShortAt first.zone (attempted_by settings action) → (asks_of mid).faults ≡ 0
        → IsWalkedReply first.zone settings at action reply

  -- a lookup, of which it is known to what it comes
  has-looked : (first : Past) (now : ℕ) (old mid : RunState) (looks : Settings → Type 0)
      (later : List (ℕ × Query)) (action : Action) (reply : EventReply)
      → HasWalked first old → (asks_of old).link.moment ≡ now → StaysFaithful origin (asks_of old) (asks_of mid)
      → (asks_of mid).link.out_of_memory ≡ false → HasNoReuse ((asks_of mid).sent ++ later)
      → ComesToWalk first.zone Asking now old mid (looks old.settings)
      → mid.settings ≡ old.settings → mid.client.preserve_intermediates ≡ old.client.preserve_intermediates
      → (looks settings → AreShortAt first.zone (attempted_by settings action) → IsWalkedReply first.zone settings now action reply) → HasReplied first now action reply mid
  has-looked first now old mid looks later action reply h at s memory once comes same aliases gives =
      let before : IsUnchanged first (asks_of mid).link.history → CacheAgrees first.zone old.client.cache =
      λ unchanged. h.cache (unchanged-before first (asks_of old).link.history (asks_of mid).link.history s.added unchanged) in
      record {
        has = record {
          faithful = s.faithful;
          good = h.good;
          origin_is = h.origin_is;
          moment = h.moment;
          current = h.current;
          added = extends-then first.history (asks_of old).link.history (asks_of mid).link.history h.added s.added;
          cache = λ unchanged. (looked first now old mid (looks old.settings) later h at s memory once comes unchanged (before unchanged)).0;
          settings_is = same ∙ h.settings_is;
          aliases_is = aliases ∙ h.aliases_is;
        };
        walked = λ unchanged short none.
            gives (subst looks h.settings_is
            ((looked first now old mid (looks old.settings) later h at s memory once comes unchanged (before unchanged)).1 none)) short;
      }

  looked-up : (first : Past) (at : ℕ) (name : DomainName) (kind : RecordType) (found : Reply) (old mid : RunState)
      (later : List (ℕ × Query)) → HasWalked first old → (asks_of old).link.moment ≡ at
      → ResolvesName Asking at (Ok name) kind old found mid → StaysFaithful origin (asks_of old) (asks_of mid)
      → (asks_of mid).link.out_of_memory ≡ false → HasNoReuse ((asks_of mid).sent ++ later)
      → HasReplied first at (actions.Lookup name kind) (replies.Lookup found) mid
  looked-up first at name kind found old mid later h moment resolves s memory once =
      has-looked first at old mid
      (λ t. AreShortAt first.zone (names_of t (Ok name)) → IsWalkedLookup first.zone t at (Ok name) kind found) later
      (actions.Lookup name kind) (replies.Lookup found) h moment s memory once
      (name-walks first.zone h.good Asking at old mid h.aliases_is (Ok name) kind found resolves.lookup)
      resolves.settings (name-aliases Asking at old mid (Ok name) kind found resolves.lookup) (λ walked short. walked short)

  looked-up-host : (first : Past) (at : ℕ) (host : _) (found : Reply) (old mid : RunState)
      (later : List (ℕ × Query)) → HasWalked first old → (asks_of old).link.moment ≡ at
      → ResolvesHost Asking at (IsTextOf (string_bytes host)) (name_of_text (string_bytes host)) old found mid
      → StaysFaithful origin (asks_of old) (asks_of mid)
      → (asks_of mid).link.out_of_memory ≡ false → HasNoReuse ((asks_of mid).sent ++ later)
      → HasReplied first at (actions.LookupIp host) (replies.LookupIp found) mid
  looked-up-host first at host found old mid later h moment resolves s memory once =
      let name = name_of_text (string_bytes host) in
      has-looked first at old mid
      (λ t. AreShortAt first.zone (names_of t name) → LooksUpHost t at (ByWalk first.zone) resolves.address name tt found tt) later
      (actions.LookupIp host) (replies.LookupIp found) h moment s memory once
      (host-walks first.zone h.good Asking at old mid h.aliases_is resolves.address name found resolves.lookup)
      resolves.settings (host-aliases Asking at old mid resolves.address name found resolves.lookup)
      (λ walked short. (resolves.address, resolves.is_address, walked short))

  -- ---- other events

  -- an entry of the cache that agrees with walks
  abbrev EntryAgrees : ZoneContent → Entry → Type 0
  EntryAgrees zone e = KeptComesTo (AgreesWithWalk zone) e.question e.kept

  -- fewer entries in the cache
  has-cleared : (first : Past) (old mid : RunState) (cache : CacheContent) → HasWalked first old
      → (CacheAgrees first.zone old.client.cache → CacheAgrees first.zone cache)
      → mid ≡ record old { client = record old.client { cache = cache } } → HasWalked first mid
  has-cleared first old mid cache h fewer is =
      subst (HasWalked first) (sym is) (record {
        faithful = h.faithful;
        good = h.good;
        origin_is = h.origin_is;
        moment = h.moment;
        current = h.current;
        added = h.added;
        cache = λ unchanged. fewer (h.cache unchanged);
        settings_is = h.settings_is;
        aliases_is = h.aliases_is;
      })

  cleared : (first : Past) (name : DomainName) (kind : RecordType) (done : Result (Unit {0}) NetError) (old mid : RunState)
      → HasWalked first old → Clears name kind old done mid → HasWalked first mid
  cleared first name kind (Ok done) old mid h clears =
      has-cleared first old mid _ h
      (λ agrees. all-cleared_lookup (EntryAgrees first.zone) old.settings (Ok name) kind old.client.cache.entries agrees) clears
  cleared first name kind (Err net.Memory) old mid h clears = subst (HasWalked first) (sym clears) h
  cleared first name kind (Err (net.Dns e)) old mid h clears = absurd clears
  cleared first name kind (Err (net.Proto e)) old mid h clears = absurd clears
  cleared first name kind (Err (net.Message e)) old mid h clears = absurd clears
  cleared first name kind (Err (net.Link e)) old mid h clears = absurd clears
  cleared first name kind (Err net.Unsupported) old mid h clears = absurd clears

  -- a full clear: from here on, the zone is that of now
  all-cleared : (first : Past) (old : RunState) → HasWalked first old
      → HasWalked (past_of (asks_of old).link) (record old { client = record old.client { cache = record old.client.cache { entries = [] } } })
  all-cleared first old h = record {
    faithful = h.faithful;
    good = h.faithful.history.zone;
    origin_is = h.faithful.history.origin_is;
    moment = (asks_of old).link.moment;
    current = h.faithful.history.current;
    added = ([], sym (append-nil (asks_of old).link.history));
    cache = λ unchanged. All-nil (EntryAgrees (asks_of old).link.zone);
    settings_is = h.settings_is;
    aliases_is = h.aliases_is;
  }

  replied : (first : Past) (at : ℕ) (action : Action) (reply : EventReply) (old mid : RunState) (later : List (ℕ × Query))
      → HasWalked first old → (asks_of old).link.moment ≡ at → RepliesByQuestions old at action reply mid
      → StaysFaithful origin (asks_of old) (asks_of mid) → (asks_of mid).link.out_of_memory ≡ false
      → HasNoReuse ((asks_of mid).sent ++ later)
      → HasReplied (past_since action first (past_of (asks_of old).link)) at action reply mid
  replied first at (actions.Lookup name kind) (replies.Lookup found) old mid later h moment r s memory once =
      looked-up first at name kind found old mid later h moment r s memory once
  replied first at (actions.LookupIp host) (replies.LookupIp found) old mid later h moment r s memory once =
      looked-up-host first at host found old mid later h moment r s memory once
  replied first at (actions.Clear name kind) (replies.Cleared done) old mid later h moment r s memory once =
      record { has = cleared first name kind done old mid h r; walked = λ unchanged short none. tt }
  replied first at actions.ClearAll (replies.Cleared done) old mid later h moment r s memory once = record {
    has = subst (HasWalked (past_of (asks_of old).link)) (sym r.1) (all-cleared first old h);
    walked = λ unchanged short none. tt;
  }
  replied first at (actions.Update update) (replies.Update reply) old mid later h moment r s memory once = record {
    has = subst (HasWalked first) (sym r.rest) (has-after first old (asks_of mid) h s);
    walked = λ unchanged short none. tt;
  }
  replied first at action reply old mid later h moment r s memory once = absurd r

  -- ---- one event

  -- what an event makes of a state: what holds of it, and of the reply
  pub record HasStepped (first : Past) (e : Event) (report : EventReport) (old new : RunState) : Type 0 where
    pub has : HasWalked (past_since e.action first (past_of (asks_of old).link)) new
    pub moment_is : (asks_of new).link.moment ≡ e.at
    pub walked : IsWalkedEvent settings (past_since e.action first (past_of (asks_of old).link)) (past_of (asks_of new).link) e report

  stepped : (first : Past) (e : Event) (report : EventReport) (old new : RunState) (later : List (ℕ × Query)) → HasWalked first old
      → (asks_of old).link.moment ≤ e.at → IsAskable e.action → Step old e report new
      → HasNoReuse ((asks_of new).sent ++ later) → HasStepped first e report old new
  stepped first e report old new later h less askable step once =
      let b = begun first (update_of e.action) e.at e.script old h less in
      let memory = mid-memory old e report new step in
      let s = stays (begin_event e old) step.mid e.at e.action report.reply b.0.faithful step.replies memory in
      let asked : RepliesByQuestions (begin_event e old) e.at e.action report.reply step.mid =
      event-replies round spells (begin_event e old) step.mid e.at e.action report.reply askable
      (subst (λ (t : Settings). t.options.edns_payload_len < 2 ^ 16) (sym b.0.settings_is) small) step.replies in
      let sent : (asks_of new).sent ≡ (asks_of step.mid).sent = ap (λ (t : RunState). (asks_of t).sent) step.ends in
      let since : Past = past_since e.action first (past_of (asks_of (begin_event e old)).link) in
      let is : since ≡ past_since e.action first (past_of (asks_of old).link) =
      past-begun e.action first e.at e.script (asks_of old) in
      let r : HasReplied since e.at e.action report.reply step.mid = replied first e.at e.action report.reply (begin_event e old) step.mid later b.0 b.1 asked s memory
      (subst (λ (xs : List (ℕ × Query)). HasNoReuse (xs ++ later)) sent once) in
      let f = end-faithful keep origin (asks_of step.mid) r.has.faithful in
      let more : Extends (asks_of step.mid).link.history (asks_of new).link.history =
      (f.added.0, ap (λ (t : RunState). (asks_of t).link.history) step.ends ∙ f.added.1) in
      record {
        has = subst (λ (p : Past). HasWalked p new) is
            (subst (HasWalked since) (sym step.ends) (has-after since step.mid (end (asks_of step.mid)) r.has f));
        moment_is = ap (λ (t : RunState). (asks_of t).link.moment) step.ends ∙ f.moment_is ∙ s.moment_is ∙ b.1;
        walked = subst (λ (p : Past). IsWalkedEvent settings p (past_of (asks_of new).link) e report) is
            (λ unchanged short none.
            r.walked (unchanged-before since (asks_of step.mid).link.history (asks_of new).link.history more unchanged) short
            (sym (ap (λ (t : RunState). (asks_of t).faults) step.ends) ∙ sym step.faults ∙ none));
      }

  -- ---- all events

  pub runs-walked : (first : Past) (old last : RunState) (events : List Event) (reports : List EventReport) (states : List RunState)
      (occasions : List Occasion) → HasWalked first old → InOrder (asks_of old).link.moment events → AreAskable events
      → Runs old events reports states last → HasNoReuse (asks_of last).sent
      → MakePasts (past_of (asks_of old).link) states occasions
      → AreWalkedEvents settings first (past_of (asks_of old).link) events reports occasions
  runs-walked first old last [] [] [] [] h order askable runs once pasts = tt
  runs-walked first old last (e ∷ events) (report ∷ reports) (state ∷ states) (o ∷ occasions) h order askable runs once pasts =
      let more = runs-extend state last events reports states runs.1 in
      let s = stepped first e report old state more.0 h order.0 askable.0 runs.0 (subst HasNoReuse more.1 once) in
      let since : Past = past_since e.action first (past_of (asks_of old).link) in
      let rest = runs-walked since state last events reports states occasions s.has
      (subst (λ (t : ℕ). InOrder t events) (sym s.moment_is) order.2) askable.1 runs.1 once
      (subst (λ (p : Past). MakePasts p states occasions) (sym pasts.0) pasts.1) in
      subst (λ (p : Past). IsWalkedEvent settings since p e report × AreWalkedEvents settings since p events reports occasions)
      pasts.0 (s.walked, rest)
  runs-walked first old last [] [] [] (o ∷ occasions) h order askable runs once pasts = absurd pasts
  runs-walked first old last [] [] (state ∷ states) occasions h order askable runs once pasts = absurd runs
  runs-walked first old last [] (report ∷ reports) states occasions h order askable runs once pasts = absurd runs
  runs-walked first old last (e ∷ events) [] states occasions h order askable runs once pasts = absurd runs
  runs-walked first old last (e ∷ events) (report ∷ reports) [] occasions h order askable runs once pasts = absurd runs
  runs-walked first old last (e ∷ events) (report ∷ reports) (state ∷ states) [] h order askable runs once pasts = absurd pasts

-- ---- runs

module _ (keep : UpdatesKeepZones) (round : (number : ℕ) → type_number (type_of number) ≡ number)
    (spells : (text : List ℕ) (name : DomainName) → name_of_text text ≡ Ok name → Spells text name)
    (content : WorldContent) (first last : RunState) (events : List Event) (reports : List EventReport) (states : List RunState)
    (zone : IsZone content.zone)
    (begins : IsFirst content.zone content.limit content.ids content.config content.options content.hosts first)
    (order : InOrder 0 events) (runs : Runs first events reports states last) (once : HasNoReuse (asks_of last).sent)
    (off : content.options.preserve_intermediates ≡ false) (small : content.options.edns_payload_len < 2 ^ 16)
    (askable : AreAskable events) where
  has-first : HasWalked keep round spells content.zone.origin (settings_of content) small (first_past content.zone) first
  has-first = record {
    faithful = subst (IsFaithful content.zone.origin) (sym begins.asks) (first-faithful content.zone content.limit content.ids zone);
    good = zone;
    origin_is = refl;
    moment = 0;
    current = record { before = []; since = 0; split = refl; begun = omega arith };
    added = ([], ap (λ (a : AskState). a.link.history) begins.asks);
    cache = λ unchanged.
        subst (CacheAgrees content.zone) (sym begins.cache)
        (All-nil (λ (e : Entry). KeptComesTo (AgreesWithWalk content.zone) e.question e.kept));
    settings_is = begins.settings;
    aliases_is = begins.aliases ∙ off;
  }

  pub walked-run : (occasions : List Occasion) → MakePasts (first_past content.zone) states occasions
      → AreWalked content events reports occasions
  walked-run occasions pasts =
      let past : past_of (asks_of first).link ≡ first_past content.zone = ap (λ (a : AskState). past_of a.link) begins.asks in
      subst (λ (p : Past). AreWalkedEvents (settings_of content) (first_past content.zone) p events reports occasions) past
      (runs-walked keep round spells content.zone.origin (settings_of content) small (first_past content.zone) first last events
      reports states occasions has-first (subst (λ (a : AskState). InOrder a.link.moment events) (sym begins.asks) order) askable runs once
      (subst (λ (p : Past). MakePasts p states occasions) (sym past) pasts))
