-- What every run keeps: the ids that were drawn, and the history of the zone.
use Rattle.std.proofs.Common.{◌≡◌, false, inl, inr, ℕ, List, [], ◌∷◌, Option, Some, None, Result, Box, refl, sym, ap, subst, ◌∙◌}
use Rattle.std.specs.Global.{Global}
use Rattle.std.specs.List.{fold}
use Rattle.dns_messages.specs.declared.message.Message.{Message}
use Rattle.dns_messages.specs.declared.response_code.ResponseCode.{ResponseCode}
use Rattle.dns_zone.specs.Rows.{ZoneContent}
use Rattle.stub_lookup.specs.declared.error.NetError.{NetError}
use Rattle.stub_client.specs.Handle.{Behavior, Outcome}
use Rattle.stub_link.specs.Ask.{Ask}
use Rattle.stub_link.specs.AskState.{AskState, UpdateZone, begin_with_update, first_asks}
use Rattle.stub_link.specs.Link.{messages}
use Rattle.stub_link.specs.LinkState.{LinkState, begin_event as begin_link, end_event as end_link, link_calls}
use Rattle.stub_link.specs.History.{AreQuestions, KeepsHistory, Occasion, Past, first_past, history_of, past_after_occasion, past_of}
use Rattle.stub_link.specs.declared.link.script.Script.{Script}
use Rattle.stub_link.proofs.HistoryLaws.{ask-keeps, begin-asks, begin-past}
use Rattle.stub_run.specs.Counts.{HasDrawn}
use Rattle.stub_run.specs.Event.{update_of}
use Rattle.stub_run.specs.History.{AreOccasions, IsOccasion, IsUpdateOf, MakePasts}
use Rattle.stub_run.specs.Run.{Replies, RepliesByZone, RunState, Runs, Step, Updates, asks_of, begin_event, begin_asks}
use Rattle.stub_run.specs.declared.event.Action.{Action}
use Rattle.stub_run.specs.declared.event.Action.TheVariants as actions
use Rattle.stub_run.specs.declared.event.Event.{Event}
use Rattle.stub_run.specs.declared.report.EventReply.{EventReply}
use Rattle.stub_run.specs.declared.report.EventReply.TheVariants as replies
use Rattle.stub_run.specs.declared.report.EventReport.{EventReport}
use Rattle.stub_run.proofs.Alike.{Sending, replies-keep}
use Rattle.stub_run.proofs.Counting.{tallies-draw}
use Rattle.stub_run.proofs.Happening.{AsksServer, UpdatesServer, end-memory}
use Rattle.stub_run.proofs.Histories.{end-questions, update-comes}
use Rattle.stub_run.proofs.OutOfMemory.{IsOut, UnlessOut, asks-keep, updates-keep, with-memory}
use Rattle.stub_run.proofs.Requests.{ask-tallies, update-tallies}

-- the link has memory as the call of an event returns
pub mid-memory : (old : RunState) (e : Event) (report : EventReport) (new : RunState) (step : Step old e report new)
    → (asks_of step.mid).link.out_of_memory ≡ false
mid-memory old e report new step =
    sym (end-memory (asks_of step.mid).link) ∙ ap (λ (s : RunState). (asks_of s).link.out_of_memory) (sym step.ends) ∙ step.memory

-- ---- ids

keep-drawn : (ids : List ℕ) (old new : RunState) (at : ℕ) (action : Action) (reply : EventReply) → HasDrawn ids (asks_of old)
    → RepliesByZone old at action reply new → UnlessOut (HasDrawn ids) (asks_of new)
keep-drawn ids old new at action reply h replies =
    replies-keep (UnlessOut (HasDrawn ids)) AsksServer UpdatesServer
    (λ old new request now outcome held asked. asks-keep (HasDrawn ids)
    (λ m old outcome new ask drawn. inr (tallies-draw 1 ids old new (ask-tallies messages link_calls m old outcome new ask) drawn))
    old new request now outcome held asked)
    (λ old new update reply held sound sends. updates-keep (HasDrawn ids)
    (λ m old reply new sent drawn. inr (tallies-draw 0 ids old new (update-tallies messages link_calls m old reply new sent) drawn))
    old new update reply held sends)
    old new at action reply (inr h) replies

begin-drawn : (ids : List ℕ) (update : Option Message) (at : ℕ) (script : Script) (asks : AskState) → HasDrawn ids asks
    → HasDrawn ids (begin_asks update at script asks)
begin-drawn ids None at script asks h = record { ids_are = h.ids_are; drawn = h.drawn }
begin-drawn ids (Some update) at script asks h = record { ids_are = h.ids_are; drawn = h.drawn }

step-drawn : (ids : List ℕ) (old : RunState) (e : Event) (report : EventReport) (new : RunState) → Step old e report new
    → HasDrawn ids (asks_of old) → HasDrawn ids (asks_of new)
step-drawn ids old e report new step h =
    let drawn = with-memory (HasDrawn ids) (asks_of step.mid) (mid-memory old e report new step)
    (keep-drawn ids (begin_event e old) step.mid e.at e.action report.reply
    (begin-drawn ids (update_of e.action) e.at e.script (asks_of old) h) step.replies) in
    subst (λ (s : RunState). HasDrawn ids (asks_of s)) (sym step.ends) (record { ids_are = drawn.ids_are; drawn = drawn.drawn })

pub runs-drawn : (ids : List ℕ) (first last : RunState) (events : List Event) (reports : List EventReport) (states : List RunState)
    → HasDrawn ids (asks_of first) → Runs first events reports states last → HasDrawn ids (asks_of last)
runs-drawn ids first last [] [] [] h runs = subst (λ (s : RunState). HasDrawn ids (asks_of s)) (sym runs) h
runs-drawn ids first last (e ∷ events) (report ∷ reports) (state ∷ states) h runs =
    runs-drawn ids state last events reports states (step-drawn ids first e report state runs.0 h) runs.1
runs-drawn ids first last [] [] (state ∷ states) h runs = absurd runs
runs-drawn ids first last [] (report ∷ reports) states h runs = absurd runs
runs-drawn ids first last (e ∷ events) [] states h runs = absurd runs
runs-drawn ids first last (e ∷ events) (report ∷ reports) [] h runs = absurd runs

-- ---- the history

-- an event that updates nothing sends no update
abbrev NoUpdate : AskState → Message → Result ResponseCode NetError → AskState → Type 0
NoUpdate old update reply new = ⊥

without-update : (gives : Behavior AskState) (sends : Sending AskState) (old new : RunState) (at : ℕ) (action : Action)
    (reply : EventReply) → update_of action ≡ None → Replies gives sends old at action reply new
    → Replies gives NoUpdate old at action reply new
without-update gives sends old new at (actions.Lookup name kind) (replies.Lookup found) none h = h
without-update gives sends old new at (actions.LookupIp host) (replies.LookupIp found) none h = h
without-update gives sends old new at (actions.Clear name kind) (replies.Cleared done) none h = h
without-update gives sends old new at actions.ClearAll (replies.Cleared done) none h = h
without-update gives sends old new at (actions.Update update) reply none h = absurd (cc)
without-update gives sends old new at action reply none h = absurd h

-- what an event makes of the past, and that all datagrams but those of updates ask questions
pub record Decides (old : LinkState) (e : Event) (reply : EventReply) (new : LinkState) : Type 0 where
  pub questions : AreQuestions new.datagrams
  pub occasion : Occasion
  pub is : IsOccasion e reply occasion
  pub past_is : past_of new ≡ past_after_occasion (past_of old) occasion

-- the history as a question leaves it
abbrev Kept : LinkState → AskState → Type 0
Kept first asks = KeepsHistory first asks.link

ask-keeps-history : (first : LinkState) (m : Message) (old : AskState) (outcome : Outcome) (new : AskState)
    → Ask messages link_calls m old outcome new → Kept first old → UnlessOut (Kept first) new
ask-keeps-history first m old outcome new ask kept =
    elim (ask-keeps m old outcome new kept.asking ask) [
      | inl out ↦ inl out
      | inr rest ↦ inr (record { asking = rest.asking; same = rest.same ∙ kept.same })
    ]

replies-keep-history : (old new : RunState) (at : ℕ) (action : Action) (reply : EventReply) (first : LinkState)
    → update_of action ≡ None → Kept first (asks_of old) → RepliesByZone old at action reply new → UnlessOut (Kept first) (asks_of new)
replies-keep-history old new at action reply first none kept replies =
    replies-keep (UnlessOut (Kept first)) AsksServer NoUpdate
    (λ old new request now outcome held asked. asks-keep (Kept first) (ask-keeps-history first) old new request now outcome held asked)
    (λ old new update reply held sound sends. absurd sends)
    old new at action reply (inr kept) (without-update AsksServer UpdatesServer old new at action reply none replies)

-- an event that updates nothing
decides-other : (old : RunState) (e : Event) (reply : EventReply) (mid : RunState) → update_of e.action ≡ None
    → AreQuestions (asks_of old).link.datagrams → RepliesByZone (begin_event e old) e.at e.action reply mid
    → (asks_of mid).link.out_of_memory ≡ false → Decides (asks_of old).link e reply (end_link (asks_of mid).link)
decides-other old e reply mid none h replies memory =
    let before = (asks_of old).link in
    let first = begin_link e.at e.script before in
    let begins : (asks_of (begin_event e old)).link ≡ first =
    ap (λ (u : Option Message). (begin_asks u e.at e.script (asks_of old)).link) none in
    let started : Kept first (asks_of (begin_event e old)) =
    subst (λ (l : LinkState). KeepsHistory first l) (sym begins)
    (record { asking = begin-asks e.at e.script before h; same = refl }) in
    let kept = with-memory (Kept first) (asks_of mid) memory
    (replies-keep-history (begin_event e old) mid e.at e.action reply first none started replies) in
    record {
      questions = end-questions (asks_of mid).link kept.asking.datagrams;
      occasion = record { moment = e.at; script = e.script; update = None };
      is = record {
        moment = refl;
        script = refl;
        update = subst (λ (u : Option Message). IsUpdateOf u reply None) (sym none) refl;
      };
      past_is = kept.same ∙ begin-past e.at e.script before h;
    }

abbrev event_at : ℕ → Script → Action → Event
event_at at script action = record { at = at; script = script; action = action }

-- an update event
decides-update : (old mid : RunState) (at : ℕ) (update : Box Message Global) (script : Script) (reply : Result ResponseCode NetError)
    → AreQuestions (asks_of old).link.datagrams
    → Updates (λ asks update reply after. UpdateZone asks update reply after) update.value (begin_event (event_at at script (actions.Update update)) old)
    reply mid
    → (asks_of mid).link.out_of_memory ≡ false
    → Decides (asks_of old).link (event_at at script (actions.Update update)) (replies.Update reply) (end_link (asks_of mid).link)
decides-update old mid at update script reply h updates memory = by updates.sent
  where
    first : AskState
    first = begin_with_update at script (asks_of old)

    out : {P : Type 0} → IsOut (asks_of mid).link → P
    out {P} is = absurd (cc)

    by : UpdateZone first update.value reply (asks_of mid)
        → Decides (asks_of old).link (event_at at script (actions.Update update)) (replies.Update reply) (end_link (asks_of mid).link)
    by (inl stays) = out stays.1
    by (inr sends) =
        elim (update-comes at script (asks_of old).link h update.value first reply (asks_of mid) refl sends) [
          | inl is ↦ out is
          | inr comes ↦ record {
            questions = end-questions (asks_of mid).link comes.2.questions;
            occasion = record { moment = at; script = script; update = Some comes.0 };
            is = record {
              moment = refl;
              script = refl;
              update = elim comes.1 [
                | inl sent ↦ inl (ap (λ (u : Option Message). Some u) sent)
                | inr none ↦ inr (ap (λ (u : Option Message). Some u) none.0, ap (λ (r : Result ResponseCode NetError). replies.Update r) none.1)
              ];
            };
            past_is = comes.2.past_is;
          }
        ]

decides-mid : (old mid : RunState) (at : ℕ) (script : Script) (action : Action) (reply : EventReply) → AreQuestions (asks_of old).link.datagrams
    → RepliesByZone (begin_event (event_at at script action) old) at action reply mid → (asks_of mid).link.out_of_memory ≡ false
    → Decides (asks_of old).link (event_at at script action) reply (end_link (asks_of mid).link)
decides-mid old mid at script (actions.Lookup name kind) reply h told memory =
    decides-other old (event_at at script (actions.Lookup name kind)) reply mid refl h told memory
decides-mid old mid at script (actions.LookupIp host) reply h told memory =
    decides-other old (event_at at script (actions.LookupIp host)) reply mid refl h told memory
decides-mid old mid at script (actions.Clear name kind) reply h told memory =
    decides-other old (event_at at script (actions.Clear name kind)) reply mid refl h told memory
decides-mid old mid at script actions.ClearAll reply h told memory =
    decides-other old (event_at at script actions.ClearAll) reply mid refl h told memory
decides-mid old mid at script (actions.Update update) (replies.Update reply) h told memory =
    decides-update old mid at update script reply h told memory
decides-mid old mid at script (actions.Update update) (replies.Lookup found) h told memory = absurd told
decides-mid old mid at script (actions.Update update) (replies.LookupIp found) h told memory = absurd told
decides-mid old mid at script (actions.Update update) (replies.Cleared done) h told memory = absurd told

pub decides-step : (old : RunState) (e : Event) (report : EventReport) (new : RunState) → AreQuestions (asks_of old).link.datagrams
    → Step old e report new → Decides (asks_of old).link e report.reply (asks_of new).link
decides-step old e report new h step =
    subst (λ (s : RunState). Decides (asks_of old).link e report.reply (asks_of s).link) (sym step.ends)
    (decides-mid old step.mid e.at e.script e.action report.reply h step.replies (mid-memory old e report new step))

-- what a run makes of the past
abbrev RunDecides : LinkState → List Event → List EventReport → List RunState → LinkState → Type 0
RunDecides first events reports states last =
    (occasions : List Occasion) × AreOccasions events reports occasions × MakePasts (past_of first) states occasions
    × (past_of last ≡ fold past_after_occasion (past_of first) occasions)

runs-decide : (first last : RunState) (events : List Event) (reports : List EventReport) (states : List RunState)
    → AreQuestions (asks_of first).link.datagrams → Runs first events reports states last
    → RunDecides (asks_of first).link events reports states (asks_of last).link
runs-decide first last [] [] [] h runs = ([], tt, tt, ap (λ (s : RunState). past_of (asks_of s).link) runs)
runs-decide first last (e ∷ events) (report ∷ reports) (state ∷ states) h runs =
    let one = decides-step first e report state h runs.0 in
    let rest = runs-decide state last events reports states one.questions runs.1 in (
      one.occasion ∷ rest.0,
      (one.is, rest.1),
      (one.past_is, subst (λ (p : Past). MakePasts p states rest.0) one.past_is rest.2),
      rest.3 ∙ ap (λ (p : Past). fold past_after_occasion p rest.0) one.past_is,
    )
runs-decide first last [] [] (state ∷ states) h runs = absurd runs
runs-decide first last [] (report ∷ reports) states h runs = absurd runs
runs-decide first last (e ∷ events) [] states h runs = absurd runs
runs-decide first last (e ∷ events) (report ∷ reports) [] h runs = absurd runs

pub history-decided : (zone : ZoneContent) (limit : ℕ) (ids : List ℕ) (first last : RunState) (events : List Event) (reports : List EventReport)
    (states : List RunState) → asks_of first ≡ first_asks zone limit ids → Runs first events reports states last
    → (occasions : List Occasion) × AreOccasions events reports occasions × MakePasts (first_past zone) states occasions
    × ((asks_of last).link.history ≡ history_of zone occasions)
history-decided zone limit ids first last events reports states is runs =
    let questions : AreQuestions (asks_of first).link.datagrams =
    subst (λ (a : AskState). AreQuestions a.link.datagrams) (sym is) tt in
    let decided = runs-decide first last events reports states questions runs in
    let past : past_of (asks_of first).link ≡ first_past zone = ap (λ (a : AskState). past_of a.link) is in (
      decided.0,
      decided.1,
      subst (λ (p : Past). MakePasts p states decided.0) past decided.2,
      ap (λ (p : Past). p.history) (decided.3 ∙ ap (λ (p : Past). fold past_after_occasion p decided.0) past),
    )
