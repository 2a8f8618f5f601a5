-- Runs over any link: an event begins and ends, the ids that were drawn stay, and a run goes on, event by event, and is reported.
use Rattle.std.proofs.Common.{◌≡◌, ◌++◌, ℕ, List, [], ◌∷◌, Option, Some, None, Result, Ok, Err, IsOk, OnOk, OnErr, IfSome, is_err, false, true, length, take, get_or, refl, sym, ap, subst, ◌∙◌, arith, inr, ◌<◌}
use Rattle.std.proofs.lemmas.List.{take_all}
use Rattle.std.proofs.lemmas.Option.{slice_get_read}
use Rattle.std.specs.declared.alloc.AllocError.{AllocError}
use Rattle.dns_messages.specs.declared.query.Query.{Query}
use Rattle.stub_core.specs.Resolver.{with_handle}
use Rattle.stub_core.specs.declared.resolver.Resolver.{Resolver}
use Rattle.stub_link.specs.Link.{calls_of, wire}
use Rattle.stub_link.specs.WireHandle.{Asks, SendsUpdate, asker_of, with_link}
use Rattle.stub_link.specs.declared.link.LinkError.{LinkError}
use Rattle.stub_link.specs.declared.wire_handle.WireHandle.{WireHandle}
use Rattle.stub_run.specs.Run.{Replies}
use Rattle.stub_run.specs.RunOver.{BeginsOver, EndsOver, Happens, HasRunOver, IsReportBeforeOver, IsReportOver, LinkRules, RunsOutOver, RunsOver, StepOver, StopsAtOver, with_sent}
use Rattle.stub_run.specs.declared.event.Action.{Action}
use Rattle.stub_run.specs.declared.event.Event.{Event}
use Rattle.stub_run.specs.declared.report.EventReply.{EventReply}
use Rattle.stub_run.specs.declared.report.EventReport.{EventReport}
use Rattle.stub_run.specs.declared.report.Report.{Report}
use Rattle.stub_run.specs.declared.runs.Progress.{Progress}
use Rattle.stub_run.proofs.Alike.{Keeps, KeepsUpdates, replies-keep}
use Rattle.stub_run.proofs.Requests.{ask-tallies, front-of-sent, update-tallies}

-- ---- results

-- what is known of a result that is not an error, or is one
pub if-ok : {A E : Type 0} (result : Result A E) (Holds : Type 0) → is_err result ≡ false → OnOk result Holds → Holds
if-ok (Ok done) Holds h holds = holds
if-ok (Err error) Holds h holds = absurd (cc)

pub if-err : {A E : Type 0} (result : Result A E) (Holds : Type 0) → is_err result ≡ true → OnErr result Holds → Holds
if-err (Ok done) Holds h holds = absurd (cc)
if-err (Err error) Holds h holds = holds

-- what is known of a result, whether it is an error or not
pub as-ok : {E : Type 0} (result : Result (Unit {0}) E) (Holds : Result (Unit {0}) E → Type 0) → is_err result ≡ false → Holds result
    → Holds (Ok tt)
as-ok (Ok done) Holds h holds = holds
as-ok (Err error) Holds h holds = absurd (cc)

pub as-err : {A E : Type 0} (result : Result A E) (Holds : Result A E → Type 0) → is_err result ≡ true → Holds result
    → (error : E) × Holds (Err error)
as-err (Ok done) Holds h holds = absurd (cc)
as-err (Err error) Holds h holds = (error, holds)

-- what is not an error has a value
pub ok-or-err : {A E : Type 0} (result : Result A E) → is_err result ≡ true → IsOk result → ⊥
ok-or-err (Ok done) h ok = cc h
ok-or-err (Err error) h ok = cc ok

-- there is no event in an empty list
pub no-event : {E : Type 0} (events : List E) (i : ℕ) → events ≡ [] → i < length events → ⊥
no-event events i none within = let len : length events ≡ 0 = ap length none in absurd (omega (arith, len, within))

-- what is known of a report, if there is one
pub if-some : {A : Type 0} (P Q : A → Type 0) (o : Option A) → ((x : A) → P x → Q x) → IfSome o P → IfSome o Q
if-some P Q None h holds = tt
if-some P Q (Some x) h holds = h x holds

-- ---- an event begins and ends

-- how a resolver's handle begins an event: it is lent, its counts are reset, and its link is lent
pub record Lent {L : Type 0} (old : Resolver (WireHandle L)) (first reset : WireHandle L) (before : L) : Type 0 where
  pub handle : first ≡ old.client.handle
  pub counts : reset ≡ record first { faults = 0; questions = 0 }
  pub link : before ≡ reset.link

pub begun : {L : Type 0} (rules : LinkRules L) (old : Resolver (WireHandle L)) (e : Event) (first reset : WireHandle L) (before after : L)
    (result : Result (Unit {0}) AllocError) → Lent old first reset before → OnOk result (rules.begins before e after)
    → OnOk result (BeginsOver rules old e (with_handle old (with_link reset after)))
begun {L} rules old e first reset before after (Ok done) lent h = record {
  link =
      subst (λ (l : L). rules.begins l e after)
      (lent.link ∙ ap (λ (x : WireHandle L). x.link) lent.counts ∙ ap (λ (x : WireHandle L). x.link) lent.handle) h;
  rest =
      ap (λ (x : WireHandle L). with_handle old (with_link x after))
      (lent.counts ∙ ap (λ (x : WireHandle L). record x { faults = 0; questions = 0 }) lent.handle);
}
begun rules old e first reset before after (Err error) lent h = tt

-- no id is drawn as an event begins
pub begun-sent : {L : Type 0} (old : Resolver (WireHandle L)) (first reset : WireHandle L) (before after : L) → Lent old first reset before
    → (with_link reset after).sent.items ≡ old.client.handle.sent.items
begun-sent {L} old first reset before after lent =
    ap (λ (x : WireHandle L). x.sent.items) lent.counts ∙ ap (λ (x : WireHandle L). x.sent.items) lent.handle

pub ended : {L : Type 0} (rules : LinkRules L) (old : Resolver (WireHandle L)) (first : WireHandle L) (before after : L)
    (result : Result (Unit {0}) AllocError) → first ≡ old.client.handle → before ≡ first.link → rules.ends before result after
    → EndsOver rules old result (with_handle old (with_link first after))
ended {L} rules old first before after result handle link h = record {
  link = subst (λ (l : L). rules.ends l result after) (link ∙ ap (λ (x : WireHandle L). x.link) handle) h;
  rest = ap (λ (x : WireHandle L). with_handle old (with_link x after)) handle;
}

-- an event, its report and the resolver at its end, which has not run out of memory
pub step-of : {L : Type 0} (rules : LinkRules L) (old replied new : Resolver (WireHandle L)) (e : Event) (reply : EventReply)
    (report : EventReport) → Happens rules old e reply replied → EndsOver rules replied (Ok tt) new
    → report ≡ record { reply = reply; faults = new.client.handle.faults; questions = new.client.handle.questions }
    → rules.is_out new.client.handle.link ≡ false → StepOver rules old e report new
step-of rules old replied new e reply report happens ends is quiet = record {
  replied = replied;
  happens = subst (λ (r : EventReport). Happens rules old e r.reply replied) (sym is) happens;
  ends = ends;
  faults = ap (λ (r : EventReport). r.faults) is;
  questions = ap (λ (r : EventReport). r.questions) is;
  memory = quiet;
}

-- ---- ids are appended

-- these ids were drawn first
abbrev pub IsFront : {L : Type 0} → List (ℕ × Query) → WireHandle L → Type 0
IsFront drawn handle = take (length drawn) handle.sent.items ≡ drawn

-- no id was drawn
pub front-same : {L : Type 0} (old new : Resolver (WireHandle L)) → new.client.handle.sent.items ≡ old.client.handle.sent.items
    → IsFront old.client.handle.sent.items new.client.handle
front-same old new same =
    let drawn = old.client.handle.sent.items in
    subst (λ (sent : List (ℕ × Query)). take (length drawn) sent ≡ drawn) (sym same) (take_all (length drawn) drawn (omega arith))

module _ {L : Type 0} (sends : L → List ℕ → Result (Unit {0}) LinkError → L → Type 0)
    (receives : L → Result (Option (List ℕ)) LinkError → L → Type 0) (streams : L → List ℕ → Result (List ℕ) LinkError → L → Type 0)
    (failure_count : L → ℕ) where
  keeps-front : (drawn : List (ℕ × Query)) → Keeps (IsFront drawn) (Asks sends receives streams failure_count)
  keeps-front drawn old new request now outcome h asks =
      front-of-sent drawn (asker_of old) (asker_of new) h
      (ask-tallies wire (calls_of sends receives streams) request.message (asker_of old) outcome (asker_of new) asks.ask)

  updates-keep-front : (drawn : List (ℕ × Query)) → KeepsUpdates (IsFront drawn) (SendsUpdate sends receives streams failure_count)
  updates-keep-front drawn old new update reply h sound sent =
      front-of-sent drawn (asker_of old) (asker_of new) h
      (update-tallies wire (calls_of sends receives streams) update (asker_of old) reply (asker_of new) sent.sent)

  -- the ids that were drawn before an event are the first ones afterwards
  pub happens-front : (old begun replied ended : Resolver (WireHandle L)) (at : ℕ) (action : Action) (reply : EventReply)
      → Replies (Asks sends receives streams failure_count) (SendsUpdate sends receives streams failure_count) begun at action reply replied
      → begun.client.handle.sent.items ≡ old.client.handle.sent.items → ended.client.handle.sent.items ≡ replied.client.handle.sent.items
      → IsFront old.client.handle.sent.items ended.client.handle
  happens-front old begun replied ended at action reply replies same last =
      let drawn = old.client.handle.sent.items in
      subst (λ (sent : List (ℕ × Query)). take (length drawn) sent ≡ drawn) (sym last)
      (replies-keep (IsFront drawn) (Asks sends receives streams failure_count) (SendsUpdate sends receives streams failure_count)
      (keeps-front drawn) (updates-keep-front drawn) begun replied at action reply (front-same old begun same) replies)

-- ---- runs

Runs-push : {L : Type 0} (rules : LinkRules L) (first : Resolver (WireHandle L)) (events : List Event) (reports : List EventReport)
    (states : List (Resolver (WireHandle L))) (mid : Resolver (WireHandle L)) (e : Event) (report : EventReport) (after : Resolver (WireHandle L))
    → RunsOver rules first events reports states mid → StepOver rules mid e report after
    → RunsOver rules first (events ++ e ∷ []) (reports ++ report ∷ []) (states ++ after ∷ []) after
Runs-push {L} rules first [] [] [] mid e report after h step =
    (subst (λ (state : Resolver (WireHandle L)). StepOver rules state e report after) h step, refl)
Runs-push rules first [] [] (s ∷ states) mid e report after h step = absurd h
Runs-push rules first [] (r ∷ reports) states mid e report after h step = absurd h
Runs-push rules first (x ∷ events) [] states mid e report after h step = absurd h
Runs-push rules first (x ∷ events) (r ∷ reports) [] mid e report after h step = absurd h
Runs-push rules first (x ∷ events) (r ∷ reports) (s ∷ states) mid e report after h step =
    (h.0, Runs-push rules s events reports states mid e report after h.1 step)

pub has-begun : {L : Type 0} (rules : LinkRules L) (first : Resolver (WireHandle L)) → HasRunOver rules first [] [] first
has-begun rules first = record { ids = first.client.handle.sent; reserved = refl; states = []; runs = refl }

pub has-reserved : {L : Type 0} (rules : LinkRules L) (first reserved : Resolver (WireHandle L))
    → reserved ≡ with_sent first reserved.client.handle.sent → reserved.client.handle.sent.items ≡ first.client.handle.sent.items
    → HasRunOver rules first [] [] reserved
has-reserved rules first reserved rest ids =
    record { ids = reserved.client.handle.sent; reserved = ids; states = []; runs = rest }

pub has-run-more : {L : Type 0} (rules : LinkRules L) (first : Resolver (WireHandle L)) (events : List Event) (reports : List EventReport)
    (old : Resolver (WireHandle L)) (e : Event) (report : EventReport) (new : Resolver (WireHandle L)) → StepOver rules old e report new
    → HasRunOver rules first events reports old → HasRunOver rules first (events ++ e ∷ []) (reports ++ report ∷ []) new
has-run-more rules first events reports old e report new step run = record {
  ids = run.ids;
  reserved = run.reserved;
  states = run.states ++ new ∷ [];
  runs = Runs-push rules (with_sent first run.ids) events reports run.states old e report new run.runs step;
}

-- ---- reports

-- what a report says of a resolver: its events, and the ids and datagrams so far
pub record Tells {L : Type 0} (reports : List EventReport) (resolver : Resolver (WireHandle L)) (report : Report) : Type 0 where
  pub events : report.events.items ≡ reports
  pub sent : report.sent.items ≡ resolver.client.handle.sent.items
  pub dropped : report.dropped ≡ resolver.client.handle.dropped

abbrev pub is-report : {L : Type 0} (rules : LinkRules L) (first : Resolver (WireHandle L)) (events : List Event) (reports : List EventReport)
    (resolver : Resolver (WireHandle L)) (report : Report) → HasRunOver rules first events reports resolver
    → Tells reports resolver report → IsReportOver rules first events report
is-report rules first events reports resolver report run tells = record {
  last = resolver;
  has_run = subst (λ (rs : List EventReport). HasRunOver rules first events rs resolver) (sym tells.events) run;
  sent = tells.sent;
  dropped = tells.dropped;
}

pub is-report-before : {L : Type 0} (rules : LinkRules L) (first : Resolver (WireHandle L)) (events : List Event) (count : ℕ)
    (reports : List EventReport) (resolver : Resolver (WireHandle L)) (report : Report)
    → HasRunOver rules first (take count events) reports resolver → StopsAtOver rules count events resolver
    → Tells reports resolver report → IsReportBeforeOver rules first events report
is-report-before rules first events count reports resolver report run stop tells = record {
  count = count;
  reported = is-report rules first (take count events) reports resolver report run tells;
  stopped = stop;
}

-- a run stops at an event during which memory runs out
pub stops-at : {L : Type 0} (rules : LinkRules L) (events : List Event) (i : ℕ) (e : Event) (resolver : Resolver (WireHandle L))
    → i < length events → e ≡ get_or events i e → RunsOutOver rules resolver e → StopsAtOver rules i events resolver
stops-at rules events i e resolver within is out = inr (e, slice_get_read events (length events) i e refl within is, out)

-- The report of a run when it had reached an earlier point, before an event.
pub tells-before : {L : Type 0} (reports : List EventReport) (old new : Resolver (WireHandle L)) (progress : Progress) (report : Report)
    → progress ≡ record { drawn = length old.client.handle.sent.items; dropped = old.client.handle.dropped }
    → IsFront old.client.handle.sent.items new.client.handle → report.events.items ≡ reports
    → report.sent.items ≡ take progress.drawn new.client.handle.sent.items → report.dropped ≡ progress.dropped → Tells reports old report
tells-before reports old new progress report reached front events sent dropped = record {
  events = events;
  sent = sent ∙ ap (λ (p : Progress). take p.drawn new.client.handle.sent.items) reached ∙ front;
  dropped = dropped ∙ ap (λ (p : Progress). p.dropped) reached;
}
