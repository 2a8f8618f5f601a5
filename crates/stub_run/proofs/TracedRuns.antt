-- A run over a link that notes its calls is a run over the other link.
use Rattle.std.proofs.Common.{◌≡◌, ℕ, List, [], ◌∷◌, Bool, Option, Result, Ok, Err, take, refl, sym, ap, subst, ◌∙◌, inl, inr}
use Rattle.std.specs.declared.alloc.AllocError.{AllocError}
use Rattle.dns_messages.specs.declared.message.Message.{Message}
use Rattle.dns_messages.specs.declared.response_code.ResponseCode.{ResponseCode}
use Rattle.stub_lookup.specs.declared.error.NetError.{NetError}
use Rattle.stub_client.specs.Handle.{Outcome}
use Rattle.stub_client.specs.declared.request.DnsRequest.{DnsRequest}
use Rattle.stub_config.specs.declared.config.ResolverConfig.{ResolverConfig}
use Rattle.stub_config.specs.declared.options.ResolverOpts.{ResolverOpts}
use Rattle.stub_hosts.specs.Hosts.{HostsContent}
use Rattle.stub_core.specs.Resolver.{with_handle}
use Rattle.stub_core.specs.declared.resolver.Resolver.{Resolver}
use Rattle.stub_link.specs.Ask.{Asker}
use Rattle.stub_link.specs.WireHandle.{Asks, SendsUpdate, with_link}
use Rattle.stub_link.specs.declared.link.LinkError.{LinkError}
use Rattle.stub_link.specs.declared.wire_handle.WireHandle.{WireHandle}
use Rattle.stub_link.specs.trace.Trace.{traced_count, traced_receives, traced_sends, traced_streams, untraced}
use Rattle.stub_link.specs.declared.trace.traced_link.TracedLink.{TracedLink}
use Rattle.stub_run.specs.Alike.{AreAlike}
use Rattle.stub_run.specs.RunOver.{BeginsOver, EndsOver, Happens, HasRunOver, IsReportBeforeOver, IsReportOver, LinkRules, RunsOutOver, RunsOver, StepOver, StopsAtOver, begun_handle, link_is_out, no_beginning, no_end, rules_of, with_sent}
use Rattle.stub_run.specs.Stepping.{RunsAs}
use Rattle.stub_run.specs.Traced.{IsUntraced, traced_rules}
use Rattle.stub_run.specs.World.{IsFirstOver}
use Rattle.stub_run.specs.declared.event.Event.{Event}
use Rattle.stub_run.specs.declared.report.EventReply.{EventReply}
use Rattle.stub_run.specs.declared.report.EventReport.{EventReport}
use Rattle.stub_run.specs.declared.report.Report.{Report}
use Rattle.stub_run.proofs.Alike.{Carries, CarriesUpdates, replies-alike}

module _ {L : Type 0} (begins : L → Event → L → Type 0) (ends : L → Result (Unit {0}) AllocError → L → Type 0) (is_out : L → Bool)
    (sends : L → List ℕ → Result (Unit {0}) LinkError → L → Type 0)
    (receives : L → Result (Option (List ℕ)) LinkError → L → Type 0)
    (streams : L → List ℕ → Result (List ℕ) LinkError → L → Type 0) (failure_count : L → ℕ)
    (asks : (old new : WireHandle (TracedLink L)) (request : DnsRequest) (now : ℕ) (outcome : Outcome)
    → Asks (traced_sends sends) (traced_receives receives) (traced_streams streams) (traced_count failure_count) old request now
    outcome new → Asks sends receives streams failure_count (untraced old) request now outcome (untraced new))
    (updates : (old new : WireHandle (TracedLink L)) (update : Message) (reply : Result ResponseCode NetError)
    → SendsUpdate (traced_sends sends) (traced_receives receives) (traced_streams streams) (traced_count failure_count) old update
    reply new → SendsUpdate sends receives streams failure_count (untraced old) update reply (untraced new)) where
  abbrev Traced : Type 0
  Traced = Resolver (WireHandle (TracedLink L))

  abbrev Plain : Type 0
  Plain = Resolver (WireHandle L)

  abbrev outer : LinkRules (TracedLink L)
  outer = traced_rules begins ends is_out sends receives streams failure_count

  abbrev inner : LinkRules L
  inner = rules_of begins ends is_out sends receives streams failure_count

  abbrev IsPlain : WireHandle (TracedLink L) → WireHandle L → Type 0
  IsPlain handle other = IsUntraced handle other

  -- ---- the handle

  carries : Carries IsPlain outer.asks inner.asks
  carries old new state request now outcome same h = (
    untraced new,
    refl,
    subst (λ (s : WireHandle L). Asks sends receives streams failure_count s request now outcome (untraced new)) (sym same)
        (asks old new request now outcome h),
  )

  carries-updates : CarriesUpdates IsPlain outer.updates inner.updates
  carries-updates old new state update reply same sound h = (
    untraced new,
    refl,
    subst (λ (s : WireHandle L). SendsUpdate sends receives streams failure_count s update reply (untraced new)) (sym same)
        (updates old new update reply h),
  )

  -- resolvers with handles that are alike
  alike-with : (old : Traced) (plain : Plain) (handle : WireHandle (TracedLink L)) (other : WireHandle L) → AreAlike IsPlain old plain
      → IsPlain handle other → AreAlike IsPlain (with_handle old handle) (with_handle plain other)
  alike-with old plain handle other alike same = record {
    settings = alike.settings;
    client = record { handle = same; cache = alike.client.cache; aliases = alike.client.aliases };
  }

  -- ---- one event

  begins-untraced : (old new : Traced) (e : Event) (plain : Plain) → AreAlike IsPlain old plain → BeginsOver outer old e new
      → (after : Plain) × AreAlike IsPlain new after × BeginsOver inner plain e after
  begins-untraced old new e plain alike b =
      let link = new.client.handle.link in
      let same = alike.client.handle in
      let after : Plain = with_handle plain (begun_handle plain.client.handle link.link) in (
        after,
        subst (λ (r : Traced). AreAlike IsPlain r after) (sym b.rest)
            (alike-with old plain (begun_handle old.client.handle link) (begun_handle plain.client.handle link.link) alike
            (ap (λ (h : WireHandle L). begun_handle h link.link) same)),
        record {
          link = subst (λ (h : WireHandle L). begins h.link e link.link) (sym same) b.link.0;
          rest = refl;
        },
      )

  ends-untraced : (old new : Traced) (result : Result (Unit {0}) AllocError) (plain : Plain) → AreAlike IsPlain old plain
      → EndsOver outer old result new → (after : Plain) × AreAlike IsPlain new after × EndsOver inner plain result after
  ends-untraced old new result plain alike e =
      let link = new.client.handle.link in
      let same = alike.client.handle in
      let after : Plain = with_handle plain (with_link plain.client.handle link.link) in (
        after,
        subst (λ (r : Traced). AreAlike IsPlain r after) (sym e.rest)
            (alike-with old plain (with_link old.client.handle link) (with_link plain.client.handle link.link) alike
            (ap (λ (h : WireHandle L). with_link h link.link) same)),
        record {
          link = subst (λ (h : WireHandle L). ends h.link result link.link) (sym same) e.link.0;
          rest = refl;
        },
      )

  happens-untraced : (old replied : Traced) (e : Event) (reply : EventReply) (plain : Plain) → AreAlike IsPlain old plain
      → Happens outer old e reply replied → (after : Plain) × AreAlike IsPlain replied after × Happens inner plain e reply after
  happens-untraced old replied e reply plain alike h =
      let b = begins-untraced old h.begun e plain alike h.begins in
      let r =
      replies-alike IsPlain outer.asks inner.asks outer.updates inner.updates carries carries-updates h.begun replied e.at e.action reply b.0 b.1
      h.replies in
      (r.0, r.1, record { begun = b.0; begins = b.2; replies = r.2 })

  step-untraced : (old new : Traced) (e : Event) (report : EventReport) (plain : Plain) → AreAlike IsPlain old plain
      → StepOver outer old e report new → (after : Plain) × AreAlike IsPlain new after × StepOver inner plain e report after
  step-untraced old new e report plain alike s =
      let h = happens-untraced old s.replied e report.reply plain alike s.happens in
      let last = ends-untraced s.replied new (Ok tt) h.0 h.1 s.ends in
      let same : untraced new.client.handle ≡ last.0.client.handle = sym last.1.client.handle in (
        last.0,
        last.1,
        record {
          replied = h.0;
          happens = h.2;
          ends = last.2;
          faults = s.faults ∙ ap (λ (x : WireHandle L). x.faults) same;
          questions = s.questions ∙ ap (λ (x : WireHandle L). x.questions) same;
          memory = sym (ap (λ (x : WireHandle L). is_out x.link) same) ∙ s.memory;
        },
      )

  out-untraced : (old : Traced) (e : Event) (plain : Plain) → AreAlike IsPlain old plain → RunsOutOver outer old e
      → RunsOutOver inner plain e
  out-untraced old e plain alike (no_beginning takes) = no_beginning takes
  out-untraced old e plain alike (no_end reply replied new error h ended) =
      let led = happens-untraced old replied e reply plain alike h in
      let last = ends-untraced replied new (Err error) led.0 led.1 ended in
      no_end reply led.0 last.0 error led.2 last.2
  out-untraced old e plain alike (link_is_out reply replied new h ended out) =
      let led = happens-untraced old replied e reply plain alike h in
      let last = ends-untraced replied new (Ok tt) led.0 led.1 ended in
      link_is_out reply led.0 last.0 led.2 last.2
      (ap (λ (x : WireHandle L). is_out x.link) last.1.client.handle ∙ out)

  -- ---- runs

  -- what a run leads to over the other link
  record Untraced (plain : Plain) (events : List Event) (reports : List EventReport) (last : Traced) : Type 0 where
    after : Plain
    alike : AreAlike IsPlain last after
    states : List Plain
    runs : RunsOver inner plain events reports states after

  runs-untraced : (old : Traced) (events : List Event) (reports : List EventReport) (states : List Traced) (last : Traced)
      (plain : Plain) → AreAlike IsPlain old plain → RunsOver outer old events reports states last → Untraced plain events reports last
  runs-untraced old [] [] [] last plain alike h = record {
    after = plain;
    alike = subst (λ (r : Traced). AreAlike IsPlain r plain) (sym h) alike;
    states = [];
    runs = refl;
  }
  runs-untraced old [] [] (s ∷ states) last plain alike h = absurd h
  runs-untraced old [] (r ∷ reports) states last plain alike h = absurd h
  runs-untraced old (e ∷ events) [] states last plain alike h = absurd h
  runs-untraced old (e ∷ events) (r ∷ reports) [] last plain alike h = absurd h
  runs-untraced old (e ∷ events) (r ∷ reports) (s ∷ states) last plain alike h =
      let led = step-untraced old s e r plain alike h.0 in
      let rest = runs-untraced s events reports states last led.0 led.1 h.1 in
      record { after = rest.after; alike = rest.alike; states = led.0 ∷ rest.states; runs = (led.2, rest.runs) }

  record HasRun (plain : Plain) (events : List Event) (reports : List EventReport) (last : Traced) : Type 0 where
    after : Plain
    alike : AreAlike IsPlain last after
    has_run : HasRunOver inner plain events reports after

  has-run-untraced : (first : Traced) (events : List Event) (reports : List EventReport) (last : Traced) (plain : Plain)
      → AreAlike IsPlain first plain → HasRunOver outer first events reports last → HasRun plain events reports last
  has-run-untraced first events reports last plain alike run =
      let same = alike.client.handle in
      let reserved : AreAlike IsPlain (with_sent first run.ids) (with_sent plain run.ids) =
      alike-with first plain (record first.client.handle { sent = run.ids }) (record plain.client.handle { sent = run.ids }) alike
      (ap (λ (h : WireHandle L). record h { sent = run.ids }) same) in
      let u = runs-untraced (with_sent first run.ids) events reports run.states last (with_sent plain run.ids) reserved run.runs in
      record {
        after = u.after;
        alike = u.alike;
        has_run = record {
          ids = run.ids;
          reserved = run.reserved ∙ ap (λ (h : WireHandle L). h.sent.items) (sym same);
          states = u.states;
          runs = u.runs;
        };
      }

  -- ---- reports

  report-of : (events : List Event) (report : Report) (plain : Plain) (last : Traced)
      (run : HasRun plain events report.events.items last) → report.sent.items ≡ last.client.handle.sent.items
      → report.dropped ≡ last.client.handle.dropped → IsReportOver inner plain events report
  report-of events report plain last run sent dropped =
      let same : untraced last.client.handle ≡ run.after.client.handle = sym run.alike.client.handle in
      record {
        last = run.after;
        has_run = run.has_run;
        sent = sent ∙ ap (λ (x : WireHandle L). x.sent.items) same;
        dropped = dropped ∙ ap (λ (x : WireHandle L). x.dropped) same;
      }

  report-untraced : (traced : Traced) (plain : Plain) (events : List Event) (report : Report) → AreAlike IsPlain traced plain
      → IsReportOver outer traced events report → IsReportOver inner plain events report
  report-untraced traced plain events report alike r =
      report-of events report plain r.last (has-run-untraced traced events report.events.items r.last plain alike r.has_run) r.sent r.dropped

  stops-untraced : (count : ℕ) (events : List Event) (last : Traced) (plain : Plain) → AreAlike IsPlain last plain
      → StopsAtOver outer count events last → StopsAtOver inner count events plain
  stops-untraced count events last plain alike (inl none) = inl none
  stops-untraced count events last plain alike (inr stop) =
      inr (stop.0, stop.1, out-untraced last stop.0 plain alike stop.2)

  before-untraced : (traced : Traced) (plain : Plain) (events : List Event) (report : Report) → AreAlike IsPlain traced plain
      → IsReportBeforeOver outer traced events report → IsReportBeforeOver inner plain events report
  unfolding report-of has-run-untraced
  before-untraced traced plain events report alike b =
      let r = b.reported in
      let run = has-run-untraced traced (take b.count events) report.events.items r.last plain alike r.has_run in
      record {
        count = b.count;
        reported = report-of (take b.count events) report plain r.last run r.sent r.dropped;
        stopped = stops-untraced b.count events r.last run.after run.alike b.stopped;
      }

  -- ---- the beginning

  -- a resolver without the notes of its link
  abbrev plain-of : Traced → Plain
  plain-of traced = record {
    settings = traced.settings;
    client = record {
      handle = untraced traced.client.handle;
      cache = traced.client.cache;
      preserve_intermediates = traced.client.preserve_intermediates;
      alloc = traced.client.alloc;
    };
    alloc = traced.alloc;
  }

  -- an asker without them
  abbrev asker-of-plain : Asker (TracedLink L) → Asker L
  asker-of-plain asker = record {
    link = asker.link.link;
    ids = asker.ids;
    sent = asker.sent;
    dropped = asker.dropped;
    faults = asker.faults;
    questions = asker.questions;
  }

  pub traced-first : (link : TracedLink L) (ids : List ℕ) (config : ResolverConfig) (options : ResolverOpts) (hosts : HostsContent)
      (resolver : Traced) → IsFirstOver link ids config options hosts resolver
      → (other : Plain) × IsFirstOver link.link ids config options hosts other × RunsAs outer inner resolver other
  traced-first link ids config options hosts resolver first =
      let alike : AreAlike IsPlain resolver (plain-of resolver) = record {
        settings = refl;
        client = record { handle = refl; cache = refl; aliases = refl };
      } in (
        plain-of resolver,
        record { asker = ap asker-of-plain first.asker; settings = first.settings; cache = first.cache; aliases = first.aliases },
        record {
          runs = λ events report r. report-untraced resolver (plain-of resolver) events report alike r;
          stops = λ events report r. before-untraced resolver (plain-of resolver) events report alike r;
        },
      )
