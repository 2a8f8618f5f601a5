-- What only grows in a run: the ids that were drawn, and the versions of the zone.
use Rattle.std.proofs.Common.{◌≡◌, ℕ, ◌++◌, List, [], ◌∷◌, Bool, true, false, Option, Some, None, refl, sym, ap, subst, ◌∙◌, inl, inr}
use Rattle.std.specs.Prelude.{if◌then◌else◌, slice_get}
use Rattle.std.specs.List.{fold}
use Rattle.std.proofs.lemmas.List.{append_assoc, append-nil}
use Rattle.dns_messages.specs.declared.message.Message.{Message}
use Rattle.dns_messages.specs.declared.query.Query.{Query}
use Rattle.dns_zone.specs.Serving.{zone_after}
use Rattle.stub_link.specs.AskState.{AskState}
use Rattle.stub_link.specs.History.{Occasion, Past, past_after, past_after_event, past_after_occasion, past_after_script, past_after_update, past_of, sent_update}
use Rattle.stub_link.specs.Link.{messages}
use Rattle.stub_link.specs.LinkState.{Version, is_applied, link_calls, named_update}
use Rattle.stub_link.specs.declared.link.script.LinkEvent.{LinkEvent}
use Rattle.stub_link.specs.declared.link.script.LinkEvent.TheVariants as does
use Rattle.stub_link.specs.declared.link.script.Script.{Script}
use Rattle.stub_link.specs.declared.link.script.Script.TheVariants as script
use Rattle.stub_run.specs.Event.{update_of}
use Rattle.stub_run.specs.Walked.{past_since}
use Rattle.stub_run.specs.Run.{RepliesByZone, RunState, Runs, Step, asks_of, begin_asks, begin_event}
use Rattle.stub_run.specs.declared.event.Action.{Action}
use Rattle.stub_run.specs.declared.event.Action.TheVariants as actions
use Rattle.stub_run.specs.declared.event.Event.{Event}
use Rattle.stub_run.specs.declared.report.EventReply.{EventReply}
use Rattle.stub_run.specs.declared.report.EventReport.{EventReport}
use Rattle.stub_run.proofs.Alike.{replies-keep}
use Rattle.stub_run.proofs.Happening.{AsksServer, UpdatesServer}
use Rattle.stub_run.proofs.OutOfMemory.{UnlessOut, asks-keep, updates-keep, with-memory}
use Rattle.stub_run.proofs.Requests.{Tallies, ask-tallies, update-tallies}
use Rattle.stub_run.proofs.RunLaws.{mid-memory}

-- a list begins with another one
abbrev pub Grows : {X : Type 0} → List X → List X → Type 0
Grows {X} old new = (more : List X) × (new ≡ old ++ more)

grows-not : {X : Type 0} (xs : List X) → Grows xs xs
grows-not xs = ([], sym (append-nil xs))

grows-then : {X : Type 0} (xs ys zs : List X) → Grows xs ys → Grows ys zs → Grows xs zs
grows-then {X} xs ys zs g h = (g.0 ++ h.0, h.1 ∙ ap (λ (l : List X). l ++ h.0) g.1 ∙ append_assoc xs g.0 h.0)

-- ---- ids

-- an asker has drawn more ids
abbrev pub Extends : List (ℕ × Query) → AskState → Type 0
Extends sent asks = Grows sent asks.sent

tallies-extend : (most : ℕ) (sent : List (ℕ × Query)) (old new : AskState) → Tallies most old new → Extends sent old → Extends sent new
tallies-extend most sent old new t h =
    grows-then sent old.sent new.sent h (elim t.draws [
      | inl same ↦ ([], same ∙ sym (append-nil old.sent))
      | inr d ↦ ((d.0, d.1) ∷ [], d.3)
    ])

replies-extend : (sent : List (ℕ × Query)) (old new : RunState) (at : ℕ) (action : Action) (reply : EventReply) → Extends sent (asks_of old)
    → RepliesByZone old at action reply new → UnlessOut (Extends sent) (asks_of new)
replies-extend sent old new at action reply h replies =
    replies-keep (UnlessOut (Extends sent)) AsksServer UpdatesServer
    (λ old new request now outcome held asked. asks-keep (Extends sent)
    (λ m old outcome new ask drawn. inr (tallies-extend 1 sent old new (ask-tallies messages link_calls m old outcome new ask) drawn))
    old new request now outcome held asked)
    (λ old new update reply held sound sends. updates-keep (Extends sent)
    (λ m old reply new done drawn. inr (tallies-extend 0 sent old new (update-tallies messages link_calls m old reply new done) drawn))
    old new update reply held sends)
    old new at action reply (inr h) replies

begin-sent : (update : Option Message) (at : ℕ) (script : Script) (asks : AskState) → (begin_asks update at script asks).sent ≡ asks.sent
begin-sent None at script asks = refl
begin-sent (Some update) at script asks = refl

-- As an event begins, the past from which on the zone must not change is that before it.
pub past-begun : (action : Action) (first : Past) (at : ℕ) (script : Script) (asks : AskState)
    → past_since action first (past_of (begin_asks (update_of action) at script asks).link) ≡ past_since action first (past_of asks.link)
past-begun actions.ClearAll first at script asks = refl
past-begun action first at script asks = refl

step-extends : (old : RunState) (e : Event) (report : EventReport) (new : RunState) → Step old e report new
    → Extends (asks_of old).sent (asks_of new)
step-extends old e report new step =
    let first : Extends (asks_of old).sent (asks_of (begin_event e old)) =
    subst (λ (s : List (ℕ × Query)). Grows (asks_of old).sent s) (sym (begin-sent (update_of e.action) e.at e.script (asks_of old)))
    (grows-not (asks_of old).sent) in
    let drawn = with-memory (Extends (asks_of old).sent) (asks_of step.mid) (mid-memory old e report new step)
    (replies-extend (asks_of old).sent (begin_event e old) step.mid e.at e.action report.reply first step.replies) in
    (drawn.0, ap (λ (s : RunState). (asks_of s).sent) step.ends ∙ drawn.1)

pub runs-extend : (first last : RunState) (events : List Event) (reports : List EventReport) (states : List RunState)
    → Runs first events reports states last → Extends (asks_of first).sent (asks_of last)
runs-extend first last [] [] [] runs =
    ([], ap (λ (s : RunState). (asks_of s).sent) runs ∙ sym (append-nil (asks_of first).sent))
runs-extend first last (e ∷ events) (report ∷ reports) (state ∷ states) runs =
    grows-then (asks_of first).sent (asks_of state).sent (asks_of last).sent (step-extends first e report state runs.0)
    (runs-extend state last events reports states runs.1)
runs-extend first last [] [] (state ∷ states) runs = absurd runs
runs-extend first last [] (report ∷ reports) states runs = absurd runs
runs-extend first last (e ∷ events) [] states runs = absurd runs
runs-extend first last (e ∷ events) (report ∷ reports) [] runs = absurd runs

-- ---- versions

after-applied : (applied : Bool) (history : List Version) (v : Version) → Grows history (if applied then history ++ v ∷ [] else history)
after-applied true history v = (v ∷ [], refl)
after-applied false history v = grows-not history

after-grows : (moment : ℕ) (past : Past) (m : Option Message) → Grows past.history (past_after moment past m).history
after-grows moment past None = grows-not past.history
after-grows moment past (Some m) =
    after-applied (is_applied past.zone m) past.history (record { moment = moment; rows = (zone_after past.zone m).rows })

event-grows : (moment : ℕ) (past : Past) (e : LinkEvent) → Grows past.history (past_after_event moment past e).history
event-grows moment past (does.Update k) = after-grows moment past (named_update (slice_get past.updates k))
event-grows moment past (does.Question n) = grows-not past.history
event-grows moment past (does.Reply n) = grows-not past.history
event-grows moment past does.Quiet = grows-not past.history
event-grows moment past does.Fail = grows-not past.history

events-grow : (moment : ℕ) (events : List LinkEvent) (past : Past) → Grows past.history (fold (past_after_event moment) past events).history
events-grow moment [] past = grows-not past.history
events-grow moment (e ∷ events) past =
    grows-then past.history (past_after_event moment past e).history (fold (past_after_event moment) past (e ∷ events)).history
    (event-grows moment past e) (events-grow moment events (past_after_event moment past e))

script-grows : (moment : ℕ) (s : Script) (sent : Option Message) (past : Past)
    → Grows past.history (past_after_script moment s sent past).history
script-grows moment script.Honest sent past = after-grows moment past sent
script-grows moment (script.Listed events) sent past = events-grow moment events.items past

update-grows : (moment : ℕ) (s : Script) (update : Option (Option Message)) (past : Past)
    → Grows past.history (past_after_update moment s update past).history
update-grows moment s None past = script-grows moment s None past
update-grows moment s (Some update) past =
    let sent : Option Message = sent_update s update in
    script-grows moment s sent (record past { updates = past.updates ++ sent ∷ [] })

pub occasions-grow : (occasions : List Occasion) (past : Past) → Grows past.history (fold past_after_occasion past occasions).history
occasions-grow [] past = grows-not past.history
occasions-grow (o ∷ occasions) past =
    grows-then past.history (past_after_occasion past o).history (fold past_after_occasion past (o ∷ occasions)).history
    (update-grows o.moment o.script o.update past) (occasions-grow occasions (past_after_occasion past o))
