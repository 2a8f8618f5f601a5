-- Questions and updates keep a handle faithful, and the outcomes of questions hold answers that stood.
use Rattle.std.proofs.Common.{◌≡◌, ℕ, ◌≤◌, ◌++◌, Bool, true, false, List, [], ◌∷◌, length, Option, Some, None, Result, Ok, Err, refl, sym, ap, subst, ◌∙◌, inl, inr}
use Rattle.std.specs.Prelude.{slice_get}
use Rattle.std.proofs.lemmas.Bool.{true≢false}
use Rattle.std.proofs.lemmas.List.{append-nil, append_assoc}
use Rattle.dns_names.specs.Name.{DomainName}
use Rattle.dns_records.specs.Rows.{Rows}
use Rattle.dns_wire.specs.Decodable.{Follow}
use Rattle.dns_messages.specs.Grammar.{ReadsQuestion}
use Rattle.dns_messages.specs.declared.message.Message.{Message}
use Rattle.dns_messages.specs.declared.op_code.OpCode.TheVariants as ops
use Rattle.dns_messages.specs.declared.query.Query.{Query}
use Rattle.dns_messages.specs.declared.response.DnsResponse.{DnsResponse}
use Rattle.dns_messages.specs.declared.response_code.ResponseCode.{ResponseCode}
use Rattle.stub_lookup.specs.declared.error.LinkFault.TheVariants as fault
use Rattle.stub_lookup.specs.declared.error.NetError.{NetError}
use Rattle.stub_lookup.specs.declared.error.NetError.TheVariants as net
use Rattle.stub_client.specs.Handle.{Outcome}
use Rattle.stub_link.specs.declared.link.LinkError.{LinkError}
use Rattle.stub_link.specs.declared.link.LinkError.TheVariants.{Failed, Memory}
use Rattle.stub_link.specs.Ask.{AfterReply, AfterSending, AfterWaiting, Ask, AskUnder, IsAsked, IsSent, IsSupported, draw}
use Rattle.stub_link.specs.AskState.{AskState, UpdateZone}
use Rattle.stub_link.specs.Link.{IsResponse, messages}
use Rattle.stub_link.specs.LinkState.{LinkState, link_calls, message_of}
use Rattle.stub_link.specs.Reply.{matches}
use Rattle.stub_link.specs.Request.{IsUpdate, with_id}
use Rattle.stub_link.specs.Update.{IsUpdateSent, code_of}
use Rattle.stub_laws.specs.history.Answered.{IsAnsweredBy, IsAnsweredSince, IsCodeAtDelivery, IsMadeFor}
use Rattle.stub_laws.specs.history.Faithful.{HasNoReuse, IsFaithful, IsSentDatagram, StaysFaithful, StaysFaithfulUnlessOut}
use Rattle.stub_laws.specs.history.Stands.{StandAt}
use Rattle.stub_link.proofs.OutcomeLaws.{IsDecoded, responses-decode}
use Rattle.stub_laws.proofs.AskLaws.{D, HoldsAnswerThen, R, answer-since, asked-answer, asked-still, drawn-holds, known-holds, more-faithful}
use Rattle.stub_laws.proofs.EventLaws.{SentReplies, faithful-of, holds-of, sent-sound}
use Rattle.stub_laws.proofs.ReceiveLaws.{Still}
use Rattle.stub_laws.proofs.ServeLaws.{UpdatesKeepZones}
use Rattle.stub_laws.proofs.WaitLaws.{StillUnlessOut, sent-accepts, sent-still}

-- ---- names of questions

-- the only question of a message that was decoded names a fully qualified name
asked-full : (response : DnsResponse) (q : Query) → IsDecoded messages (Ok response) → response.message.queries ≡ q ∷ []
    → q.name.is_fqdn ≡ true
asked-full response q decoded only =
    let is : IsResponse decoded.0 response = decoded.1 in
    let bytes : List ℕ = response.buffer.items in
    let follow : Follow (ReadsQuestion bytes) 12 (q ∷ []) is.reads.queries_end =
    subst (λ (qs : List Query). Follow (ReadsQuestion bytes) 12 qs is.reads.queries_end) only is.reads.queries.queries in
    follow.1.sound.fqdn

-- ---- what is drawn

sent-same : (m : Message) (question : Option Query) (datagram : Message) (old : AskState) (outcome : Outcome) (new : AskState)
    → IsSent messages link_calls m question datagram old outcome new → new.sent ≡ old.sent
sent-same m question datagram old outcome new x = go x.result x.after
  where
    go : (result : Result (Unit {0}) LinkError) → AfterSending messages link_calls m.metadata.id question result (record old { link = x.link }) outcome new
        → new.sent ≡ old.sent
    go (Ok done) t = ap (λ (s : AskState). s.sent) t.new_is
    go (Err Failed) t = ap (λ (s : AskState). s.sent) t.1
    go (Err Memory) t = ap (λ (s : AskState). s.sent) t.1

asked-same : (m : Message) (q : Query) (old : AskState) (outcome : Outcome) (new : AskState) → IsAsked messages link_calls m q old outcome new
    → new.sent ≡ old.sent
asked-same m q old outcome new x = go x.waited x.ends ∙ sent-same m (Some q) x.datagram old x.waited x.mid x.sent
  where
    by-reply : (b : Bool) (first : DnsResponse) → AfterReply messages link_calls m.metadata.id q x.datagram b first x.mid outcome new → new.sent ≡ x.mid.sent
    by-reply false first t = ap (λ (s : AskState). s.sent) t.1
    by-reply true first t = ap (λ (s : AskState). s.sent) t.new_is

    go : (waited : Outcome) → AfterWaiting messages link_calls m.metadata.id q x.datagram waited x.mid outcome new → new.sent ≡ x.mid.sent
    go (Ok first) t = by-reply first.message.metadata.truncation first t
    go (Err error) t = ap (λ (s : AskState). s.sent) t.1

-- ---- states that differ in counts alone

stays-same : (origin : DomainName) (old mid new : AskState) → new.link ≡ mid.link → new.sent ≡ mid.sent → StaysFaithfulUnlessOut origin old mid
    → StaysFaithfulUnlessOut origin old new
stays-same origin old mid new link sent (inl out) = inl (ap (λ (l : LinkState). l.out_of_memory) link ∙ out)
stays-same origin old mid new link sent (inr s) =
    let more = more-faithful origin mid new [] link (sent ∙ sym (append-nil mid.sent)) s.faithful in
    inr (record {
      faithful = more.faithful;
      moment_is = ap (λ (l : LinkState). l.moment) link ∙ s.moment_is;
      added = (s.added.0, ap (λ (l : LinkState). l.history) link ∙ s.added.1);
      stands = subst (λ (l : LinkState). (moment : ℕ) (rows : Rows) → moment ≤ old.link.moment → StandAt old.link.history moment rows → StandAt l.history moment rows)
          (sym link) s.stands;
      drawn = s.drawn;
      sent_is = sent ∙ s.sent_is;
    })

stays-still : (origin : DomainName) (old new : AskState) (drawn : List (ℕ × Query)) → new.sent ≡ old.sent ++ drawn
    → Still origin old.link.moment (IsSentDatagram (old.sent ++ drawn)) (SentReplies old.link.history (old.sent ++ drawn)) old.link new.link
    → StaysFaithful origin old new
stays-still origin old new drawn sent s = record {
  faithful = subst (λ (all : List (ℕ × Query)). IsFaithful origin (record new { sent = all })) (sym sent)
      (faithful-of origin old.link.moment old.link.history (record new { sent = old.sent ++ drawn }) s.holds);
  moment_is = s.holds.at_moment;
  added = s.holds.added;
  stands = s.stands;
  drawn = drawn;
  sent_is = sent;
}

module _ (keep : UpdatesKeepZones) (origin : DomainName) (old : AskState) (f : IsFaithful origin old) where
  -- ---- questions

  module _ (m : Message) (q : Query) (code : m.metadata.op_code ≡ ops.Query) (only : m.queries ≡ q ∷ []) (outcome : Outcome) (new : AskState) where
    under-stays : (found : Option ℕ) → AskUnder messages link_calls found m q old outcome new → StaysFaithfulUnlessOut origin old new
    under-stays None t =
        inr (more-faithful origin old new [] (ap (λ (s : AskState). s.link) t.1) (ap (λ (s : AskState). s.sent) t.1 ∙ sym (append-nil old.sent)) f)
    under-stays (Some id) t =
        elim t [
          | inl u ↦ elim u.1 [
            | inl e ↦ inr (more-faithful origin old new [] (ap (λ (s : AskState). s.link) e) (ap (λ (s : AskState). s.sent) e ∙ sym (append-nil old.sent)) f)
            | inr e ↦ inr (more-faithful origin old new ((id, q) ∷ []) (ap (λ (s : AskState). s.link) e) (ap (λ (s : AskState). s.sent) e) f)
          ]
          | inr x ↦ by id x (asked-still keep origin old.sent old.link.history old.link.moment (with_id id m) q code only (draw id q old)
              (known-holds keep origin old.sent old.link.history old.link.moment (with_id id m) q code only old.link (holds-of origin old f)) outcome new x)
        ]
      where
        by : (id : ℕ) (x : IsAsked messages link_calls (with_id id m) q (draw id q old) outcome new)
            → StillUnlessOut origin old.link.moment (D keep origin old.sent old.link.history old.link.moment (with_id id m) q code only)
            (R keep origin old.sent old.link.history old.link.moment (with_id id m) q code only) old.link new.link
            → StaysFaithfulUnlessOut origin old new
        by id x (inl out) = inl out
        by id x (inr s) =
            inr (stays-still origin old new ((id, q) ∷ []) (asked-same (with_id id m) q (draw id q old) outcome new x) (record {
              holds = drawn-holds keep origin old.sent old.link.history old.link.moment (with_id id m) q code only new.link s.holds;
              stands = s.stands;
            }))

    under-answers : (found : Option ℕ) (later : List (ℕ × Query)) (response : DnsResponse) → AskUnder messages link_calls found m q old outcome new
        → HasNoReuse (new.sent ++ later) → outcome ≡ Ok response
        → (id : ℕ) × (found ≡ Some id) × HoldsAnswerThen origin old.link.history new.link.history old.link.moment (with_id id m) q response.message
    under-answers None later response t once ok =
        absurd (let clash : ◌≡◌ {A = Outcome} (Err (net.Link fault.NoId)) (Ok response) = sym t.0 ∙ ok in cc)
    under-answers (Some id) later response t once ok =
        elim t [
          | inl u ↦ absurd (let clash : ◌≡◌ {A = Outcome} (Err net.Memory) (Ok response) = sym u.0 ∙ ok in cc)
          | inr x ↦ (
            id,
            refl,
            asked-answer keep origin old.sent old.link.history old.link.moment (with_id id m) q code only (draw id q old)
                (known-holds keep origin old.sent old.link.history old.link.moment (with_id id m) q code only old.link (holds-of origin old f)) outcome new later response
                (subst (λ (all : List (ℕ × Query)). HasNoReuse all)
                (ap (λ (all : List (ℕ × Query)). all ++ later) (asked-same (with_id id m) q (draw id q old) outcome new x)
                ∙ append_assoc old.sent ((id, q) ∷ []) later) once) x ok,
          )
        ]

  module _ (m : Message) (outcome : Outcome) (new : AskState) (x : Ask messages link_calls m old outcome new) where
    link-is : new.link ≡ x.uncounted.link
    link-is = ap (λ (s : AskState). s.link) x.counted

    sent-is : new.sent ≡ x.uncounted.sent
    sent-is = ap (λ (s : AskState). s.sent) x.counted

    pub ask-stays : StaysFaithfulUnlessOut origin old new
    ask-stays =
        stays-same origin old x.uncounted new link-is sent-is (elim x.asked [
          | inl u ↦ inr (more-faithful origin old x.uncounted [] (ap (λ (s : AskState). s.link) u.same)
              (ap (λ (s : AskState). s.sent) u.same ∙ sym (append-nil old.sent)) f)
          | inr k ↦ under-stays m k.question k.asks.op_code k.asks.only outcome x.uncounted (slice_get old.ids (length old.sent)) k.asked
        ])

    -- an answer that was made for the datagram under the next id
    abbrev Answered : LinkState → Query → DnsResponse → Type 0
    Answered link p response =
        (id : ℕ) × (slice_get old.ids (length old.sent) ≡ Some id)
        × HoldsAnswerThen origin old.link.history link.history old.link.moment (with_id id m) p response.message

    supported-answers : (k : IsSupported messages link_calls m old outcome x.uncounted) (later : List (ℕ × Query)) (response : DnsResponse)
        → HasNoReuse (new.sent ++ later) → outcome ≡ Ok response → Answered new.link k.question response
    supported-answers k later response once ok =
        subst (λ (l : LinkState). Answered l k.question response) (sym link-is)
        (under-answers m k.question k.asks.op_code k.asks.only outcome x.uncounted (slice_get old.ids (length old.sent)) later response k.asked
        (subst (λ (all : List (ℕ × Query)). HasNoReuse (all ++ later)) sent-is once) ok)

    answers-then : (q : Query) (later : List (ℕ × Query)) → m.queries ≡ q ∷ [] → HasNoReuse (new.sent ++ later)
        → (response : DnsResponse) → outcome ≡ Ok response → Answered new.link q response
    answers-then q later only once response ok =
        elim x.asked [
          | inl u ↦ absurd (let clash : ◌≡◌ {A = Outcome} (Err net.Unsupported) (Ok response) = sym u.outcome_is ∙ ok in cc)
          | inr k ↦ subst (λ (p : Query). Answered new.link p response)
              (same-question k.question q (sym k.asks.only ∙ only)) (supported-answers k later response once ok)
        ]
      where
        same-question : (p q : Query) → ◌≡◌ {A = List Query} (p ∷ []) (q ∷ []) → p ≡ q
        same-question p q e = cc

    pub ask-answers : (q : Query) (later : List (ℕ × Query)) → m.queries ≡ q ∷ [] → HasNoReuse (new.sent ++ later)
        → IsAnsweredBy origin new.link.history (record { moment = old.link.moment; ask = record { question = q; outcome = outcome } })
    ask-answers q later only once response ok =
        let a = (answers-then q later only once response ok).2 in
        let decoded : IsDecoded messages outcome = responses-decode messages link_calls m old outcome new x in
        record {
          full = asked-full response q (subst (λ (o : Outcome). IsDecoded messages o) ok decoded) a.holds.queries;
          rows = a.rows;
          stand = a.stand;
          holds = a.holds;
        }

    pub ask-answers-since : (q : Query) (later : List (ℕ × Query)) → m.queries ≡ q ∷ [] → HasNoReuse (new.sent ++ later)
        → IsAnsweredSince origin old.link.history new.link.history (record { question = q; outcome = outcome })
    ask-answers-since q later only once response ok =
        let a = answers-then q later only once response ok in
        answer-since origin old.link.history new.link.history old.link.moment (with_id a.0 m) q response.message a.2

    -- a response is the reply to the datagram of its question, and was made while it was open
    pub ask-made : (q : Query) (later : List (ℕ × Query)) → m.queries ≡ q ∷ [] → HasNoReuse (new.sent ++ later) → (response : DnsResponse)
        → outcome ≡ Ok response
        → (id : ℕ) × (slice_get old.ids (length old.sent) ≡ Some id)
        × IsMadeFor origin old.link.history new.link.history old.link.moment (with_id id m) response.message
    ask-made q later only once response ok =
        let a = answers-then q later only once response ok in
        (a.0, a.1, record { rows = a.2.rows; transport = a.2.transport; stand = a.2.stand; since = a.2.since; reply = a.2.reply })

  -- ---- updates

  update-sent-stays : (m : Message) (u : IsUpdate m) (reply : Result ResponseCode NetError) (new : AskState) → IsUpdateSent messages link_calls m old reply new
      → StaysFaithfulUnlessOut origin old new
  update-sent-stays m u reply new x =
      by (sent-still keep origin old.link.moment (IsSentDatagram old.sent) (SentReplies old.link.history old.sent) (λ y made has added d. d) (sent-sound old.sent)
      m None x.datagram old x.waited new (inr u.update) (holds-of origin old f) x.sent)
    where
      by : StillUnlessOut origin old.link.moment (IsSentDatagram old.sent) (SentReplies old.link.history old.sent) old.link new.link → StaysFaithfulUnlessOut origin old new
      by (inl out) = inl out
      by (inr s) =
          inr (stays-still origin old new [] (sent-same m None x.datagram old x.waited new x.sent ∙ sym (append-nil old.sent))
          (subst (λ (all : List (ℕ × Query)). Still origin old.link.moment (IsSentDatagram all) (SentReplies old.link.history all) old.link new.link) (sym (append-nil old.sent)) s))

  pub update-stays : (m : Message) (u : IsUpdate m) (reply : Result ResponseCode NetError) (new : AskState) → UpdateZone old m reply new
      → StaysFaithfulUnlessOut origin old new
  update-stays m u reply new (inl out) = inl out.1
  update-stays m u reply new (inr x) =
      stays-same origin old x.uncounted new (ap (λ (s : AskState). s.link) x.counted) (ap (λ (s : AskState). s.sent) x.counted) (elim x.sent [
        | inl e ↦ inr (more-faithful origin old x.uncounted [] (ap (λ (s : AskState). s.link) e.1)
            (ap (λ (s : AskState). s.sent) e.1 ∙ sym (append-nil old.sent)) f)
        | inr s ↦ update-sent-stays m u reply x.uncounted s
      ])

  -- the code of an update is that of a reply
  code-of-sent : (m : Message) (u : IsUpdate m) (code : ResponseCode) (reply : Result ResponseCode NetError) (new : AskState) → reply ≡ Ok code
      → IsUpdateSent messages link_calls m old reply new → IsCodeAtDelivery origin new.link.history old.link.moment m.metadata.id code
  code-of-sent m u code reply new ok x = by x.waited (sym x.reply_is ∙ ok) x.sent
    where
      by : (waited : Outcome) → code_of waited ≡ Ok code → IsSent messages link_calls m None x.datagram old waited new
          → IsCodeAtDelivery origin new.link.history old.link.moment m.metadata.id code
      by (Ok response) is s =
          let a = sent-accepts keep origin old.link.moment (IsSentDatagram old.sent) (SentReplies old.link.history old.sent) (λ y made has added d. d)
          (sent-sound old.sent) m None x.datagram old (Ok response) new (inr u.update) (holds-of origin old f) s response refl in
          let r = a.brings.0 in
          let limit = a.brings.1 in
          let made = a.brings.3 in
          let same : response.message ≡ message_of limit r = a.brings.4 in
          record {
            delivered = r;
            limit = limit;
            origin_is = made.origin_is;
            stand = made.stand;
            past = made.past;
            matching = subst (λ (y : Message). matches m.metadata.id None y ≡ true) same a.matching;
            code_is = code-same code response.message.metadata.response_code (sym is) ∙ ap (λ (y : Message). y.metadata.response_code) same;
          }
        where
          code-same : (c d : ResponseCode) → ◌≡◌ {A = Result ResponseCode NetError} (Ok c) (Ok d) → c ≡ d
          code-same c d e = cc
      by (Err error) is s = absurd (let clash : ◌≡◌ {A = Result ResponseCode NetError} (Err error) (Ok code) = is in cc)

  pub update-code : (m : Message) (u : IsUpdate m) (code : ResponseCode) (new : AskState) → UpdateZone old m (Ok code) new
      → new.link.out_of_memory ≡ false → IsCodeAtDelivery origin new.link.history old.link.moment m.metadata.id code
  update-code m u code new (inl out) memory = absurd (true≢false (sym out.1 ∙ memory))
  update-code m u code new (inr x) memory =
      subst (λ (l : LinkState). IsCodeAtDelivery origin l.history old.link.moment m.metadata.id code) (sym (ap (λ (s : AskState). s.link) x.counted))
      (elim x.sent [
        | inl e ↦ absurd (let clash : ◌≡◌ {A = Result ResponseCode NetError} (Err net.Memory) (Ok code) = sym e.0 in cc)
        | inr s ↦ code-of-sent m u code (Ok code) x.uncounted refl s
      ])
