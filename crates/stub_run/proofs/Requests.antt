-- What one request changes of the ids, of those that were drawn and of the counts, over any link.
use Rattle.std.proofs.Common.{◌≡◌, ◌≤◌, ◌+◌, ◌++◌, Bool, true, false, inl, inr, ℕ, zero, suc, List, [], ◌∷◌, Option, Some, None, Result, Ok, Err, length, take, slice_get, refl, sym, ap, subst, ◌∙◌, arith, length-take}
use Rattle.std.specs.Prelude.{◌⊎◌}
use Rattle.std.proofs.lemmas.List.{take-append-le}
use Rattle.dns_messages.specs.declared.message.Message.{Message}
use Rattle.dns_messages.specs.declared.query.Query.{Query}
use Rattle.dns_messages.specs.declared.response.DnsResponse.{DnsResponse}
use Rattle.dns_messages.specs.declared.response_code.ResponseCode.{ResponseCode}
use Rattle.stub_lookup.specs.declared.error.NetError.{NetError}
use Rattle.stub_client.specs.Handle.{Outcome}
use Rattle.stub_link.specs.declared.link.LinkError.{LinkError}
use Rattle.stub_link.specs.declared.link.LinkError.TheVariants.{Failed, Memory}
use Rattle.stub_link.specs.Link.{Calls, Carrier}
use Rattle.stub_link.specs.Request.{with_id}
use Rattle.stub_link.specs.Wait.{Wait, WaitAfter, one_more}
use Rattle.stub_link.specs.Ask.{AfterReply, AfterSending, AfterWaiting, Ask, AskUnder, Asker, IsAsked, IsSent, draw, questions_after}
use Rattle.stub_link.specs.Update.{SendUpdate}

-- the ids that were drawn stay, or the next one is drawn
abbrev pub Draws : {L : Type 0} → Asker L → Asker L → Type 0
Draws old new =
    (new.sent ≡ old.sent)
    ⊎ ((id : ℕ) × (q : Query) × (slice_get old.ids (length old.sent) ≡ Some id) × (new.sent ≡ old.sent ++ (id, q) ∷ []))

-- A request of at most so many questions: it draws at most one id, drops at most sixteen datagrams and sends at most so many questions.
pub record Tallies {L : Type 0} (most : ℕ) (old new : Asker L) : Type 0 where
  pub ids : new.ids ≡ old.ids
  pub draws : Draws old new
  pub dropped : new.dropped ≤ old.dropped + 16
  pub questions : new.questions ≤ old.questions + most

-- what was sent and is awaited changes no id
pub record Sending {L : Type 0} (most : ℕ) (old new : Asker L) : Type 0 where
  pub ids : new.ids ≡ old.ids
  pub sent : new.sent ≡ old.sent
  pub dropped : new.dropped ≤ old.dropped + 16
  pub questions : new.questions ≤ old.questions + most

nothing-sent : {L : Type 0} (most : ℕ) (old new : Asker L) → new ≡ old → Sending most old new
nothing-sent {L} most old new same = subst (λ (a : Asker L). Sending most old a) (sym same) (record {
  ids = refl;
  sent = refl;
  dropped = omega arith;
  questions = omega arith;
})

-- another link
linked : {L : Type 0} (most : ℕ) (old new : Asker L) (link : L) → Sending most (record old { link = link }) new → Sending most old new
linked most old new link s = record { ids = s.ids; sent = s.sent; dropped = s.dropped; questions = s.questions }

then-linked : {L : Type 0} (most : ℕ) (old mid new : Asker L) (link : L) → Sending most old mid → new ≡ record mid { link = link }
    → Sending most old new
then-linked {L} most old mid new link s same = subst (λ (a : Asker L). Sending most old a) (sym same) (record {
  ids = s.ids;
  sent = s.sent;
  dropped = s.dropped;
  questions = s.questions;
})

one-more-most : (count : ℕ) → one_more count ≤ count + 1
one-more-most count = omega arith

-- how many questions a request asks
abbrev pub most_of : Option Query → ℕ
most_of (Some q) = 1
most_of None = 0

questions-most : (question : Option Query) (count : ℕ) → questions_after question count ≤ count + most_of question
questions-most (Some q) count = one-more-most count
questions-most None count = omega arith

module _ {L D : Type 0} (carrier : Carrier D) (calls : Calls L D) where
  -- each datagram that is awaited is dropped at most once
  wait-drops : (left id : ℕ) (question : Option Query) (old : L) (dropped : ℕ) (outcome : Outcome) (new : L) (total : ℕ)
      → Wait carrier calls left id question old dropped outcome new total → total ≤ dropped + left
  unfolding Wait
  wait-drops zero id question old dropped outcome new total w = omega (arith, w.2)
  wait-drops (suc left) id question old dropped outcome new total w =
      go w.0 w.3 (λ t. wait-drops left id question w.1 (one_more dropped) outcome new total t)
    where
      mid : L
      mid = w.1

      go : (received : Result (Option D) LinkError)
          → WaitAfter carrier id question received mid dropped (λ more. Wait carrier calls left id question mid more) outcome new total
          → (Wait carrier calls left id question mid (one_more dropped) outcome new total → total ≤ one_more dropped + left)
          → total ≤ dropped + suc left
      go (Ok (Some datagram)) t rest =
          elim t [
            | inl u ↦ omega (arith, u.count)
            | inr u ↦ elim u [
              | inl v ↦ omega (arith, rest v.1, one-more-most dropped)
              | inr v ↦ omega (arith, v.count)
            ]
          ]
      go (Ok None) t rest = omega (arith, t.2)
      go (Err Failed) t rest = omega (arith, t.2)
      go (Err Memory) t rest = omega (arith, t.2)

  after-sending : (id : ℕ) (question : Option Query) (result : Result (Unit {0}) LinkError) (mid : Asker L) (outcome : Outcome)
      (new : Asker L) → AfterSending carrier calls id question result mid outcome new → Sending (most_of question) mid new
  after-sending id question (Ok done) mid outcome new a =
      let drops = wait-drops 16 id question mid.link mid.dropped outcome a.link a.dropped a.waits in
      subst (λ (x : Asker L). Sending (most_of question) mid x) (sym a.new_is) (record {
        ids = refl;
        sent = refl;
        dropped = drops;
        questions = questions-most question mid.questions;
      })
  after-sending id question (Err Failed) mid outcome new a = nothing-sent (most_of question) mid new a.1
  after-sending id question (Err Memory) mid outcome new a = nothing-sent (most_of question) mid new a.1

  is-sent : (m : Message) (question : Option Query) (datagram : D) (old : Asker L) (outcome : Outcome) (new : Asker L)
      → IsSent carrier calls m question datagram old outcome new → Sending (most_of question) old new
  is-sent m question datagram old outcome new x =
      linked (most_of question) old new x.link
      (after-sending m.metadata.id question x.result (record old { link = x.link }) outcome new x.after)

  after-reply : (id : ℕ) (q : Query) (datagram : D) (truncated : Bool) (response : DnsResponse) (old mid : Asker L) (outcome : Outcome)
      (new : Asker L) → Sending 1 old mid → AfterReply carrier calls id q datagram truncated response mid outcome new → Sending 1 old new
  after-reply id q datagram false response old mid outcome new s t =
      subst (λ (a : Asker L). Sending 1 old a) (sym t.1) s
  after-reply id q datagram true response old mid outcome new s t = then-linked 1 old mid new t.link s t.new_is

  after-waiting : (id : ℕ) (q : Query) (datagram : D) (waited : Outcome) (old mid : Asker L) (outcome : Outcome) (new : Asker L)
      → Sending 1 old mid → AfterWaiting carrier calls id q datagram waited mid outcome new → Sending 1 old new
  after-waiting id q datagram (Ok response) old mid outcome new s t =
      after-reply id q datagram response.message.metadata.truncation response old mid outcome new s t
  after-waiting id q datagram (Err error) old mid outcome new s t = subst (λ (a : Asker L). Sending 1 old a) (sym t.1) s

  is-asked : (m : Message) (q : Query) (old : Asker L) (outcome : Outcome) (new : Asker L)
      → IsAsked carrier calls m q old outcome new → Sending 1 old new
  is-asked m q old outcome new a =
      after-waiting m.metadata.id q a.datagram a.waited old a.mid outcome new
      (is-sent m (Some q) a.datagram old a.waited a.mid a.sent) a.ends

  -- nothing was drawn
  without-id : (most : ℕ) (old new : Asker L) → Sending most old new → Tallies most old new
  without-id most old new s = record { ids = s.ids; draws = inl s.sent; dropped = s.dropped; questions = s.questions }

  -- the next id was drawn
  with-id : (id : ℕ) (q : Query) (old new : Asker L) → slice_get old.ids (length old.sent) ≡ Some id → Sending 1 (draw id q old) new
      → Tallies 1 old new
  with-id id q old new next s = record {
    ids = s.ids;
    draws = inr (id, q, next, s.sent);
    dropped = s.dropped;
    questions = s.questions;
  }

  under : (next : Option ℕ) (m : Message) (q : Query) (old : Asker L) (outcome : Outcome) (new : Asker L)
      → slice_get old.ids (length old.sent) ≡ next → AskUnder carrier calls next m q old outcome new → Tallies 1 old new
  under None m q old outcome new next t = without-id 1 old new (nothing-sent 1 old new t.1)
  under (Some id) m q old outcome new next t =
      elim t [
        | inl u ↦ elim u.1 [
          | inl same ↦ without-id 1 old new (nothing-sent 1 old new same)
          | inr drawn ↦ with-id id q old new next (nothing-sent 1 (draw id q old) new drawn)
        ]
        | inr asked ↦ with-id id q old new next (is-asked (with_id id m) q (draw id q old) outcome new asked)
      ]

  -- a fault is counted
  with-fault : (most : ℕ) (old mid new : Asker L) (faults : ℕ) → Tallies most old mid → new ≡ record mid { faults = faults }
      → Tallies most old new
  with-fault most old mid new faults t same = subst (λ (a : Asker L). Tallies most old a) (sym same) (record {
    ids = t.ids;
    draws = t.draws;
    dropped = t.dropped;
    questions = t.questions;
  })

  pub ask-tallies : (m : Message) (old : Asker L) (outcome : Outcome) (new : Asker L) → Ask carrier calls m old outcome new
      → Tallies 1 old new
  ask-tallies m old outcome new a = with-fault 1 old a.uncounted new _ by a.counted
    where
      by : Tallies 1 old a.uncounted
      by = elim a.asked [
        | inl u ↦ without-id 1 old a.uncounted (nothing-sent 1 old a.uncounted u.same)
        | inr k ↦ under (slice_get old.ids (length old.sent)) m k.question old outcome a.uncounted refl k.asked
      ]

  pub update-tallies : (m : Message) (old : Asker L) (reply : Result ResponseCode NetError) (new : Asker L)
      → SendUpdate carrier calls m old reply new → Tallies 0 old new
  update-tallies m old reply new a = with-fault 0 old a.uncounted new _ by a.counted
    where
      by : Tallies 0 old a.uncounted
      by = elim a.sent [
        | inl u ↦ without-id 0 old a.uncounted (nothing-sent 0 old a.uncounted u.1)
        | inr k ↦ without-id 0 old a.uncounted (is-sent m None k.datagram old k.waited a.uncounted k.sent)
      ]

-- ---- the ids that were drawn first stay first

front-of-more : (drawn sent more : List (ℕ × Query)) → take (length drawn) sent ≡ drawn → take (length drawn) (sent ++ more) ≡ drawn
front-of-more drawn sent more h =
    let count = ap length h in
    let within : length drawn ≤ length sent = omega (arith, length-take (length drawn) sent, count) in
    take-append-le (length drawn) sent more within ∙ h

pub front-of-sent : {L : Type 0} {most : ℕ} (drawn : List (ℕ × Query)) (old new : Asker L) → take (length drawn) old.sent ≡ drawn
    → Tallies most old new → take (length drawn) new.sent ≡ drawn
front-of-sent drawn old new h t =
    elim t.draws [
      | inl same ↦ subst (λ (sent : List (ℕ × Query)). take (length drawn) sent ≡ drawn) (sym same) h
      | inr d ↦ subst (λ (sent : List (ℕ × Query)). take (length drawn) sent ≡ drawn) (sym d.3)
          (front-of-more drawn old.sent ((d.0, d.1) ∷ []) h)
    ]

-- ---- what every call of a link keeps

module _ {L D : Type 0} (carrier : Carrier D) (calls : Calls L D) (Holds : L → Type 0)
    (sends : (old : L) (d : D) (result : Result (Unit {0}) LinkError) (new : L) → calls.sends old d result new → Holds old → Holds new)
    (receives : (old : L) (received : Result (Option D) LinkError) (new : L) → calls.receives old received new → Holds old → Holds new)
    (streams : (old : L) (d : D) (result : Result D LinkError) (new : L) → calls.streams old d result new → Holds old → Holds new) where
  same-link : (old new : L) → new ≡ old → Holds old → Holds new
  same-link old new same h = subst Holds (sym same) h

  same-asker : (old new : Asker L) → new ≡ old → Holds old.link → Holds new.link
  same-asker old new same h = same-link old.link new.link (ap (λ (a : Asker L). a.link) same) h

  wait-holds : (left id : ℕ) (question : Option Query) (old : L) (dropped : ℕ) (outcome : Outcome) (new : L) (total : ℕ)
      → Wait carrier calls left id question old dropped outcome new total → Holds old → Holds new
  unfolding Wait
  wait-holds zero id question old dropped outcome new total w h = same-link old new w.1 h
  wait-holds (suc left) id question old dropped outcome new total w h =
      go w.0 (receives old w.0 w.1 w.2 h) w.3
      (λ held t. wait-holds left id question w.1 (one_more dropped) outcome new total t held)
    where
      mid : L
      mid = w.1

      go : (received : Result (Option D) LinkError) → Holds mid
          → WaitAfter carrier id question received mid dropped (λ more. Wait carrier calls left id question mid more) outcome new total
          → (Holds mid → Wait carrier calls left id question mid (one_more dropped) outcome new total → Holds new) → Holds new
      go (Ok (Some datagram)) held t rest =
          elim t [
            | inl u ↦ same-link mid new u.same held
            | inr u ↦ elim u [
              | inl v ↦ rest held v.1
              | inr v ↦ same-link mid new v.same held
            ]
          ]
      go (Ok None) held t rest = same-link mid new t.1 held
      go (Err Failed) held t rest = same-link mid new t.1 held
      go (Err Memory) held t rest = same-link mid new t.1 held

  sending-holds : (id : ℕ) (question : Option Query) (result : Result (Unit {0}) LinkError) (mid : Asker L) (outcome : Outcome)
      (new : Asker L) → AfterSending carrier calls id question result mid outcome new → Holds mid.link → Holds new.link
  sending-holds id question (Ok done) mid outcome new a h =
      same-link a.link new.link (ap (λ (x : Asker L). x.link) a.new_is)
      (wait-holds 16 id question mid.link mid.dropped outcome a.link a.dropped a.waits h)
  sending-holds id question (Err Failed) mid outcome new a h = same-asker mid new a.1 h
  sending-holds id question (Err Memory) mid outcome new a h = same-asker mid new a.1 h

  sent-holds : (m : Message) (question : Option Query) (datagram : D) (old : Asker L) (outcome : Outcome) (new : Asker L)
      → IsSent carrier calls m question datagram old outcome new → Holds old.link → Holds new.link
  sent-holds m question datagram old outcome new x h =
      sending-holds m.metadata.id question x.result (record old { link = x.link }) outcome new x.after
      (sends old.link datagram x.result x.link x.sends h)

  reply-holds : (id : ℕ) (q : Query) (datagram : D) (truncated : Bool) (response : DnsResponse) (mid : Asker L) (outcome : Outcome)
      (new : Asker L) → AfterReply carrier calls id q datagram truncated response mid outcome new → Holds mid.link → Holds new.link
  reply-holds id q datagram false response mid outcome new t h = same-asker mid new t.1 h
  reply-holds id q datagram true response mid outcome new t h =
      same-link t.link new.link (ap (λ (x : Asker L). x.link) t.new_is) (streams mid.link datagram t.result t.link t.streams h)

  waiting-holds : (id : ℕ) (q : Query) (datagram : D) (waited : Outcome) (mid : Asker L) (outcome : Outcome) (new : Asker L)
      → AfterWaiting carrier calls id q datagram waited mid outcome new → Holds mid.link → Holds new.link
  waiting-holds id q datagram (Ok response) mid outcome new t h =
      reply-holds id q datagram response.message.metadata.truncation response mid outcome new t h
  waiting-holds id q datagram (Err error) mid outcome new t h = same-asker mid new t.1 h

  asked-holds : (m : Message) (q : Query) (old : Asker L) (outcome : Outcome) (new : Asker L)
      → IsAsked carrier calls m q old outcome new → Holds old.link → Holds new.link
  asked-holds m q old outcome new a h =
      waiting-holds m.metadata.id q a.datagram a.waited a.mid outcome new a.ends
      (sent-holds m (Some q) a.datagram old a.waited a.mid a.sent h)

  under-holds : (next : Option ℕ) (m : Message) (q : Query) (old : Asker L) (outcome : Outcome) (new : Asker L)
      → AskUnder carrier calls next m q old outcome new → Holds old.link → Holds new.link
  under-holds None m q old outcome new t h = same-asker old new t.1 h
  under-holds (Some id) m q old outcome new t h =
      elim t [
        | inl u ↦ elim u.1 [
          | inl same ↦ same-asker old new same h
          | inr drawn ↦ same-asker (draw id q old) new drawn h
        ]
        | inr asked ↦ asked-holds (with_id id m) q (draw id q old) outcome new asked h
      ]

  pub ask-holds : (m : Message) (old : Asker L) (outcome : Outcome) (new : Asker L) → Ask carrier calls m old outcome new
      → Holds old.link → Holds new.link
  ask-holds m old outcome new a h = same-link a.uncounted.link new.link (ap (λ (x : Asker L). x.link) a.counted) by
    where
      by : Holds a.uncounted.link
      by = elim a.asked [
        | inl u ↦ same-asker old a.uncounted u.same h
        | inr k ↦ under-holds (slice_get old.ids (length old.sent)) m k.question old outcome a.uncounted k.asked h
      ]

  pub update-holds : (m : Message) (old : Asker L) (reply : Result ResponseCode NetError) (new : Asker L)
      → SendUpdate carrier calls m old reply new → Holds old.link → Holds new.link
  update-holds m old reply new a h = same-link a.uncounted.link new.link (ap (λ (x : Asker L). x.link) a.counted) by
    where
      by : Holds a.uncounted.link
      by = elim a.sent [
        | inl u ↦ same-asker old a.uncounted u.1 h
        | inr k ↦ sent-holds m None k.datagram old k.waited a.uncounted k.sent h
      ]
