-- A question is asked: the state stays faithful, and a response holds the answer of rows that stand.
use Rattle.std.proofs.Common.{◌≡◌, ℕ, ◌+◌, ◌<◌, ◌≤◌, ◌==◌, ◌&&◌, ◌++◌, zero, suc, Bool, true, false, cond, List, [], ◌∷◌, length, Option, Some, None, Result, Ok, Err, Contains, refl, sym, ap, subst, ◌∙◌, slice_index_or, inl, inr, arith, length-append}
use Rattle.std.specs.Prelude.{◌⊎◌, IfSome}
use Rattle.std.specs.List.{AllByRecursion}
use Rattle.std.proofs.lemmas.Bool.{true≢false}
use Rattle.std.proofs.lemmas.List.{append-nil, append_assoc}
use Rattle.std.proofs.lemmas.List.Elements.{Contains-append_left, Contains-push}
use Rattle.dns_names.specs.Name.{DomainName}
use Rattle.dns_records.specs.Rows.{Rows}
use Rattle.dns_messages.specs.Cut.{cut}
use Rattle.dns_messages.specs.Question.{same_question}
use Rattle.dns_messages.specs.Sound.{IsSound}
use Rattle.dns_messages.specs.declared.message.Message.{Message}
use Rattle.dns_messages.specs.declared.op_code.OpCode.{OpCode}
use Rattle.dns_messages.specs.declared.op_code.OpCode.TheVariants as ops
use Rattle.dns_messages.specs.declared.query.Query.{Query}
use Rattle.dns_messages.specs.declared.response.DnsResponse.{DnsResponse}
use Rattle.dns_zone.specs.Rows.{ZoneContent}
use Rattle.dns_zone.specs.Serving.{query_reply, reply_by_code, reply_limit, sent_reply, zone_after}
use Rattle.dns_zone.specs.declared.transport.Transport.{Transport}
use Rattle.dns_zone.specs.declared.transport.Transport.TheVariants.{Datagram, Stream}
use Rattle.stub_lookup.specs.declared.error.LinkFault.TheVariants as fault
use Rattle.stub_lookup.specs.declared.error.NetError.TheVariants as net
use Rattle.stub_client.specs.Handle.{Outcome}
use Rattle.stub_link.specs.declared.link.LinkError.{LinkError}
use Rattle.stub_link.specs.declared.link.LinkError.TheVariants.{Failed, Memory}
use Rattle.stub_link.specs.Ask.{AfterReply, AfterStream, AfterWaiting, IsAsked, IsSent}
use Rattle.stub_link.specs.Ask.IsStreamReply.{matching, unreadable, other, undecoded}
use Rattle.stub_link.specs.AskState.{AskState}
use Rattle.stub_link.specs.Link.{messages}
use Rattle.stub_link.specs.LinkState.{Course, Honest, Listed, LinkState, ServerReply, Version, is_applied, link_calls, message_of, serve, Streams as StreamsMessage}
use Rattle.stub_link.specs.Reply.{is_reply_code, is_reply_header, is_response, matches, repeats}
use Rattle.stub_link.specs.Request.{IsSoundUpdate}
use Rattle.stub_laws.specs.history.Answered.{HoldsAnswer, HoldsAnswerSince, zone_with}
use Rattle.stub_laws.specs.history.Faithful.{EachSent, EachUnderWay, HasHistory, HasNoReuse, IsCurrent, IsFaithful, IsMadeBy, IsSentDatagram, StaysFaithful, is_reuse}
use Rattle.stub_laws.specs.history.Stands.{Extends, HoldSince, StandAt}
use Rattle.stub_laws.proofs.EventLaws.{IsSentReply, SentReplies, sent-sound}
use Rattle.stub_laws.proofs.ReceiveLaws.{Holds, IsBroughtBy, ReplyClaim, Still, fail-still, serve-still, still-then}
use Rattle.stub_laws.proofs.ServeLaws.{UpdatesKeepZones, current-stands, each-weaker}
use Rattle.stub_laws.proofs.StandLaws.{both-true}
use Rattle.stub_laws.proofs.WaitLaws.{Accepts, StillUnlessOut, same-response, sent-accepts, sent-still, unless-same}
use Rattle.stub_laws.proofs.WholeLaws.{holds-answer, is-query-reply}

-- ---- ids

each-middle : {X : Type 0} (P : X → Type 0) (xs : List X) (x : X) (ys : List X) → AllByRecursion P (xs ++ x ∷ ys) → P x
each-middle P [] x ys h = h.0
each-middle P (y ∷ xs) x ys h = each-middle P xs x ys h.1

reuse-at : (a b : ℕ × Query) (later sent : List (ℕ × Query)) (k : ℕ) → k < length sent → slice_index_or sent k a ≡ a → HasNoReuse (sent ++ b ∷ later)
    → is_reuse a b ≡ false
reuse-at a b later [] k less e h = absurd (omega arith)
reuse-at a b later (first ∷ sent) zero less e h =
    subst (λ (x : ℕ × Query). is_reuse x b ≡ false) e (each-middle (λ (x : ℕ × Query). is_reuse first x ≡ false) sent b later h.0)
reuse-at a b later (first ∷ sent) (suc k) less e h = reuse-at a b later sent k (omega arith) e h.1

-- a question that was sent before, under the same id, asks something else
no-reuse : (a b : ℕ × Query) (sent later : List (ℕ × Query)) → Contains sent a → HasNoReuse (sent ++ b ∷ later) → is_reuse a b ≡ false
no-reuse a b sent later c h = reuse-at a b later sent c.0 c.1 c.2 h

-- ---- which replies match

-- a reply to an update does not
not-update : (zone : ZoneContent) (transport : Transport) (id : ℕ) (q : Query) (m : Message) → IsSoundUpdate m → matches id (Some q) (sent_reply zone transport m) ≡ true → ⊥
not-update zone transport id q m u h =
    let r : Message = sent_reply zone transport m in
    let header = (both-true (is_reply_header id (Some q) r.metadata) (repeats (Some q) r.queries) h).0 in
    let rest = (both-true (is_response r.metadata.message_type) (is_reply_code (Some q) r.metadata.op_code && (r.metadata.id == id)) header).1 in
    let code : is_reply_code (Some q) r.metadata.op_code ≡ true = (both-true (is_reply_code (Some q) r.metadata.op_code) (r.metadata.id == id) rest).0 in
    let is : r.metadata.op_code ≡ ops.Update =
    ap (λ (x : Message). (cut (reply_limit transport m) x).metadata.op_code) (ap (reply_by_code zone m) u.op_code) ∙ u.op_code in
    true≢false (sym code ∙ ap (is_reply_code (Some q)) is)

-- a reply to a question has its id, and repeats it
repeats-question : (zone : ZoneContent) (transport : Transport) (id : ℕ) (q : Query) (m : Message) (first : Query) → m.metadata.op_code ≡ ops.Query → m.queries ≡ first ∷ []
    → matches id (Some q) (sent_reply zone transport m) ≡ true → is_reuse (m.metadata.id, first) (id, q) ≡ true
repeats-question zone transport id q m first code only h =
    let r : Message = cut (reply_limit transport m) (query_reply zone m first) in
    let matched : matches id (Some q) r ≡ true =
    subst (λ (x : Message). matches id (Some q) (cut (reply_limit transport m) x) ≡ true) (is-query-reply zone m first code only) h in
    let parts = both-true (is_reply_header id (Some q) r.metadata) (repeats (Some q) r.queries) matched in
    let rest = (both-true (is_response r.metadata.message_type) (is_reply_code (Some q) r.metadata.op_code && (r.metadata.id == id)) parts.0).1 in
    let same-id : (m.metadata.id == id) ≡ true = (both-true (is_reply_code (Some q) r.metadata.op_code) (r.metadata.id == id) rest).1 in
    let same : same_question q first ≡ true = parts.1 in
    ap (λ (b : Bool). b && same_question q first) same-id ∙ same

-- ---- more that was sent

some-weaker : (P Q : Message → Type 0) → ((m : Message) → P m → Q m) → (o : Option Message) → IfSome o P → IfSome o Q
some-weaker P Q f None h = h
some-weaker P Q f (Some m) h = f m h

under-way-weaker : (P Q : Message → Type 0) → ((m : Message) → P m → Q m) → (course : Course) → EachUnderWay P course → EachUnderWay Q course
under-way-weaker P Q f (Honest under_way) h = each-weaker P Q f under_way h
under-way-weaker P Q f (Listed events) h = tt

sent-weaker : (P Q : Message → Type 0) → ((m : Message) → P m → Q m) → (state : LinkState) → EachSent P state → EachSent Q state
sent-weaker P Q f state h = record {
  datagrams = each-weaker P Q f state.datagrams h.datagrams;
  updates = each-weaker (λ (place : Option Message). IfSome place P) (λ (place : Option Message). IfSome place Q) (some-weaker P Q f) state.updates h.updates;
  under_way = under-way-weaker P Q f state.course h.under_way;
}

drawn-more : (sent more : List (ℕ × Query)) (m : Message) → IsSentDatagram sent m → IsSentDatagram (sent ++ more) m
drawn-more sent more m (inl s) = inl (record {
  question = s.question;
  drawn = Contains-append_left sent more (m.metadata.id, s.question) s.drawn;
  op_code = s.op_code;
  only = s.only;
})
drawn-more sent more m (inr u) = inr u

pub more-faithful : (origin : DomainName) (old new : AskState) (more : List (ℕ × Query)) → new.link ≡ old.link → new.sent ≡ old.sent ++ more → IsFaithful origin old
    → StaysFaithful origin old new
more-faithful origin old new more link sent f = record {
  faithful = subst (λ (l : LinkState). IsFaithful origin (record new { link = l })) (sym link)
      (subst (λ (s : List (ℕ × Query)). IsFaithful origin (record new { link = old.link; sent = s })) (sym sent) (record {
        history = f.history;
        sent = sent-weaker (IsSentDatagram old.sent) (IsSentDatagram (old.sent ++ more)) (drawn-more old.sent more) old.link f.sent;
        replied = each-weaker (IsSentReply old.sent) (IsSentReply (old.sent ++ more)) (λ r s. drawn-more old.sent more r.datagram s) old.link.replies f.replied;
      }));
  moment_is = ap (λ (l : LinkState). l.moment) link;
  added = ([], ap (λ (l : LinkState). l.history) link ∙ sym (append-nil old.link.history));
  stands = subst (λ (l : LinkState). (moment : ℕ) (rows : Rows) → moment ≤ old.link.moment → StandAt old.link.history moment rows → StandAt l.history moment rows)
      (sym link) (λ moment rows past stand. stand);
  drawn = more;
  sent_is = sent;
}

-- ---- within a question

-- a datagram was sent before, or is that of this question
abbrev pub IsKnown : List (ℕ × Query) → Message → Message → Type 0
IsKnown sent m x = IsSentDatagram sent x ⊎ (x ≡ m)

-- A reply is to a datagram that was sent before, or it was made at this moment, to that of this question, by rows that hold since earlier
-- versions.
abbrev pub IsKnownReply : List (ℕ × Query) → Message → ℕ → List Version → List Version → ServerReply → Type 0
IsKnownReply sent m now earlier history r =
    IsSentDatagram sent r.datagram ⊎ ((r.datagram ≡ m) × (r.moment ≡ now) × HoldSince earlier history r.zone.rows)

-- the current rows hold since earlier versions
current-since : (earlier history : List Version) (moment : ℕ) (rows : Rows) → IsCurrent history moment rows → Extends earlier history
    → HoldSince earlier history rows
current-since earlier history moment rows c added = record {
  before = c.before;
  since = c.since;
  after = [];
  split = c.split;
  late = by (length-append earlier added.0)
      (length-append c.before (record { moment = c.since; rows = rows } ∷ []))
      (ap (λ (vs : List Version). length vs) (sym added.1 ∙ c.split));
}
  where
    by : length (earlier ++ added.0) ≡ length earlier + length added.0
        → length (c.before ++ record { moment = c.since; rows = rows } ∷ []) ≡ length c.before + 1
        → length (earlier ++ added.0) ≡ length (c.before ++ record { moment = c.since; rows = rows } ∷ [])
        → length earlier ≤ suc (length c.before)
    by a b same = omega (arith, a, b, same)

-- and so they do as versions are added
since-more : (earlier history more : List Version) (rows : Rows) → HoldSince earlier history rows → HoldSince earlier (history ++ more) rows
since-more earlier history more rows s = record {
  before = s.before;
  since = s.since;
  after = s.after ++ more;
  split = ap (λ (vs : List Version). vs ++ more) s.split
      ∙ append_assoc s.before (record { moment = s.since; rows = rows } ∷ s.after) more;
  late = s.late;
}

-- rows that hold since some versions hold since earlier ones
pub since-wider : (first earlier history final : List Version) (rows : Rows) → Extends first earlier → Extends history final
    → HoldSince earlier history rows → HoldSince first final rows
since-wider first earlier history final rows before after s =
    subst (λ (vs : List Version). HoldSince first vs rows) (sym after.1) (since-more first history after.0 rows (record {
      before = s.before;
      since = s.since;
      after = s.after;
      split = s.split;
      late = by (ap (λ (vs : List Version). length vs) before.1) (length-append first before.0) s.late;
    }))
  where
    by : length earlier ≡ length (first ++ before.0) → length (first ++ before.0) ≡ length first + length before.0
        → length earlier ≤ suc (length s.before) → length first ≤ suc (length s.before)
    by a b late = omega (arith, a, b, late)

-- an answer of rows that stand at a moment, and hold since earlier versions
pub record HoldsAnswerThen (origin : DomainName) (earlier history : List Version) (moment : ℕ) (datagram : Message) (q : Query) (m : Message)
    : Type 0 where
  pub rows : Rows
  pub stand : StandAt history moment rows
  pub holds : HoldsAnswer (zone_with origin rows) q m
  pub since : HoldSince earlier history rows
  pub transport : Transport
  pub reply : m ≡ sent_reply (zone_with origin rows) transport datagram

abbrev pub answer-since : (origin : DomainName) (earlier history : List Version) (moment : ℕ) (datagram : Message) (q : Query) (m : Message)
    → HoldsAnswerThen origin earlier history moment datagram q m → HoldsAnswerSince origin earlier history q m
answer-since origin earlier history moment datagram q m a = record { rows = a.rows; since = a.since; holds = a.holds }

module _ (keep : UpdatesKeepZones) (origin : DomainName) (sent : List (ℕ × Query)) (earlier : List Version) (now : ℕ) (m : Message) (q : Query)
    (code : m.metadata.op_code ≡ ops.Query) (only : m.queries ≡ q ∷ []) where
  abbrev pub D : Message → Type 0
  D x = IsKnown sent m x

  pub known-later : (history : List Version) (v : Version) (r : ServerReply) → IsKnownReply sent m now earlier history r
      → IsKnownReply sent m now earlier (history ++ v ∷ []) r
  known-later history v r (inl s) = inl s
  known-later history v r (inr made) = inr (made.0, made.1, since-more earlier history (v ∷ []) r.zone.rows made.2)

  abbrev pub R : ReplyClaim
  R = record {
    earlier = earlier;
    holds = λ history r. IsKnownReply sent m now earlier history r;
    later = λ history v r held. known-later history v r held;
  }

  makes : (x : Message) (state : LinkState) → HasHistory origin state → Extends earlier state.history → IsKnown sent m x
      → IsKnownReply sent m now earlier state.history (record { datagram = x; zone = state.zone; moment = now })
  makes x state has added (inl s) = inl s
  makes x state has added (inr e) =
      inr (e, refl, current-since earlier state.history state.moment state.zone.rows has.current added)

  sound : (x : Message) → IsKnown sent m x → x.metadata.op_code ≡ ops.Update → IsSound x
  sound x (inl s) u = sent-sound sent x s u
  sound x (inr e) u =
      absurd (let clash : ◌≡◌ {A = OpCode} ops.Query ops.Update = sym code ∙ ap (λ (y : Message). y.metadata.op_code) (sym e) ∙ u in cc)

  pub known-holds : (state : LinkState) → Holds origin now (IsSentDatagram sent) (SentReplies earlier sent) state → Holds origin now D R state
  known-holds state h = record {
    history = h.history;
    sent = sent-weaker (IsSentDatagram sent) D (λ x s. inl s) state h.sent;
    added = h.added;
    replied = each-weaker (IsSentReply sent) (R.holds state.history) (λ r s. inl s) state.replies h.replied;
    at_moment = h.at_moment;
  }

  is-drawn : IsSentDatagram (sent ++ (m.metadata.id, q) ∷ []) m
  is-drawn = inl (record { question = q; drawn = Contains-push sent (m.metadata.id, q); op_code = code; only = only })

  known-drawn : (x : Message) → IsKnown sent m x → IsSentDatagram (sent ++ (m.metadata.id, q) ∷ []) x
  known-drawn x (inl s) = drawn-more sent ((m.metadata.id, q) ∷ []) x s
  known-drawn x (inr e) = subst (λ (y : Message). IsSentDatagram (sent ++ (m.metadata.id, q) ∷ []) y) (sym e) is-drawn

  reply-drawn : (history : List Version) (r : ServerReply) → IsKnownReply sent m now earlier history r
      → IsSentDatagram (sent ++ (m.metadata.id, q) ∷ []) r.datagram
  reply-drawn history r (inl s) = drawn-more sent ((m.metadata.id, q) ∷ []) r.datagram s
  reply-drawn history r (inr e) = known-drawn r.datagram (inr e.0)

  pub drawn-holds : (state : LinkState) → Holds origin now D R state
      → Holds origin now (IsSentDatagram (sent ++ (m.metadata.id, q) ∷ [])) (SentReplies earlier (sent ++ (m.metadata.id, q) ∷ [])) state
  drawn-holds state h = record {
    history = h.history;
    sent = sent-weaker D (IsSentDatagram (sent ++ (m.metadata.id, q) ∷ [])) known-drawn state h.sent;
    added = h.added;
    replied = each-weaker (R.holds state.history) (IsSentReply (sent ++ (m.metadata.id, q) ∷ [])) (reply-drawn state.history) state.replies
        h.replied;
    at_moment = h.at_moment;
  }

  link-same : (old new : AskState) → new ≡ old → new.link ≡ old.link
  link-same old new e = ap (λ (s : AskState). s.link) e

  module _ (old : AskState) (h : Holds origin now D R old.link) (outcome : Outcome) (new : AskState) where
    -- ---- what is kept

    streams-still : (mid : LinkState) (new : LinkState) (result : Result Message LinkError) → Still origin now D R old.link mid → StreamsMessage mid m result new
        → StillUnlessOut origin now D R old.link new
    streams-still mid new (Ok answer) k s =
        inr (still-then keep origin now D R makes sound old.link mid new k
        (subst (λ (l : LinkState). Still origin now D R mid l) (sym s.2) (serve-still keep origin now D R makes sound m mid (inr refl) k.holds)))
    streams-still mid new (Err Failed) k s =
        inr (still-then keep origin now D R makes sound old.link mid new k
        (subst (λ (l : LinkState). Still origin now D R mid l) (sym s.1) (fail-still keep origin now D R makes sound mid k.holds)))
    streams-still mid new (Err Memory) k s = inl s

    reply-still : (truncated : Bool) (first : DnsResponse) (mid : AskState) → Still origin now D R old.link mid.link
        → AfterReply messages link_calls m.metadata.id q m truncated first mid outcome new → StillUnlessOut origin now D R old.link new.link
    reply-still false first mid k t = unless-same keep origin now D R makes sound old.link mid.link new.link (inr k) (link-same mid new t.1)
    reply-still true first mid k t =
        unless-same keep origin now D R makes sound old.link t.link new.link (streams-still mid.link t.link t.result k t.streams) (link-same _ new t.new_is)

    waited-still : (waited : Outcome) (mid : AskState) (datagram : Message) → IsSent messages link_calls m (Some q) datagram old waited mid
        → AfterWaiting messages link_calls m.metadata.id q m waited mid outcome new → StillUnlessOut origin now D R old.link new.link
    waited-still (Ok first) mid datagram s t =
        reply-still first.message.metadata.truncation first mid
        (sent-accepts keep origin now D R makes sound m (Some q) datagram old (Ok first) mid (inr refl) h s first refl).still t
    waited-still (Err error) mid datagram s t =
        unless-same keep origin now D R makes sound old.link mid.link new.link
        (sent-still keep origin now D R makes sound m (Some q) datagram old (Err error) mid (inr refl) h s) (link-same mid new t.1)

    ends-of : (x : IsAsked messages link_calls m q old outcome new) → AfterWaiting messages link_calls m.metadata.id q m x.waited x.mid outcome new
    ends-of x = subst (λ (d : Message). AfterWaiting messages link_calls m.metadata.id q d x.waited x.mid outcome new) x.sent.encodes x.ends

    pub asked-still : IsAsked messages link_calls m q old outcome new → StillUnlessOut origin now D R old.link new.link
    asked-still x = waited-still x.waited x.mid x.datagram x.sent (ends-of x)

    -- ---- what is answered

    -- the response is a reply to a datagram that matches, or the reply over the stream
    abbrev IsGot : DnsResponse → Type 0
    IsGot response =
        (IsBroughtBy origin now R new.link response.message × (matches m.metadata.id (Some q) response.message ≡ true))
        ⊎ ((zone : ZoneContent) × StandAt new.link.history now zone.rows × HoldSince earlier new.link.history zone.rows
        × (zone.origin ≡ origin) × (response.message ≡ sent_reply zone Stream m))

    record Concludes (response : DnsResponse) : Type 0 where
      got : IsGot response
      whole : response.message.metadata.truncation ≡ false

    stream-whole : (b : Bool) (second response : DnsResponse) → second.message.metadata.truncation ≡ b
        → ◌≡◌ {A = Outcome} (cond b (Err (net.Link fault.Truncated)) (Ok second)) (Ok response)
        → (second ≡ response) × (response.message.metadata.truncation ≡ false)
    stream-whole true second response e is = absurd (cc)
    stream-whole false second response e is =
        let same : second ≡ response = same-response second response is in
        (same, ap (λ (x : DnsResponse). x.message.metadata.truncation) (sym same) ∙ e)

    -- the rows by which a request is served
    since-served : (mid : LinkState) → Holds origin now D R mid → HoldSince earlier (serve m mid).history mid.zone.rows
    since-served mid h =
        since-applied mid.history (record { moment = mid.moment; rows = (zone_after mid.zone m).rows }) mid.zone.rows
        (current-since earlier mid.history mid.moment mid.zone.rows h.history.current h.added) (is_applied mid.zone m)
      where
        since-applied : (history : List Version) (v : Version) (rows : Rows) → HoldSince earlier history rows → (applied : Bool)
            → HoldSince earlier (cond applied (history ++ v ∷ []) history) rows
        since-applied history v rows s true = since-more earlier history (v ∷ []) rows s
        since-applied history v rows s false = s

    streamed : (mid : LinkState) (link : LinkState) (result : Result Message LinkError) (response : DnsResponse) → Still origin now D R old.link mid
        → StreamsMessage mid m result link → AfterStream messages m.metadata.id q result outcome → new.link ≡ link → outcome ≡ Ok response → Concludes response
    streamed mid link (Ok answer) response k s (matching second is matched e) same ok =
        let both = stream-whole second.message.metadata.truncation second response refl (sym e ∙ ok) in
        let zone : ZoneContent = mid.zone in
        let served = serve-still keep origin now D R makes sound m mid (inr refl) k.holds in
        let at : mid.moment ≡ now = k.holds.at_moment in
        let stand : StandAt mid.history now zone.rows =
        subst (λ (t : ℕ). StandAt mid.history t zone.rows) at (current-stands mid.history mid.moment zone.rows k.holds.history.current) in
        record {
          got = inr (
            zone,
            subst (λ (l : LinkState). StandAt l.history now zone.rows) (sym (same ∙ s.2)) (served.stands now zone.rows (omega arith) stand),
            subst (λ (l : LinkState). HoldSince earlier l.history zone.rows) (sym (same ∙ s.2)) (since-served mid k.holds),
            k.holds.history.origin_is,
            ap (λ (x : DnsResponse). x.message) (sym both.0) ∙ is.message ∙ s.1,
          );
          whole = both.1;
        }
    streamed mid link (Ok answer) response k s (unreadable none e) same ok =
        absurd (let clash : ◌≡◌ {A = Outcome} (Err (net.Link fault.StreamUnreadable)) (Ok response) = sym e ∙ ok in cc)
    streamed mid link (Ok answer) response k s (other x is differs e) same ok =
        absurd (let clash : ◌≡◌ {A = Outcome} (Err (net.Link fault.StreamMismatch)) (Ok response) = sym e ∙ ok in cc)
    streamed mid link (Ok answer) response k s (undecoded e) same ok =
        absurd (let clash : ◌≡◌ {A = Outcome} (Err net.Memory) (Ok response) = sym e ∙ ok in cc)
    streamed mid link (Err Failed) response k s e same ok =
        absurd (let clash : ◌≡◌ {A = Outcome} (Err (net.Link fault.StreamFailed)) (Ok response) = sym e ∙ ok in cc)
    streamed mid link (Err Memory) response k s e same ok =
        absurd (let clash : ◌≡◌ {A = Outcome} (Err net.Memory) (Ok response) = sym e ∙ ok in cc)

    replied : (truncated : Bool) (first response : DnsResponse) (mid : AskState) → first.message.metadata.truncation ≡ truncated
        → Accepts origin now D R m.metadata.id (Some q) old.link mid.link first
        → AfterReply messages link_calls m.metadata.id q m truncated first mid outcome new → outcome ≡ Ok response → Concludes response
    replied false first response mid e a t ok =
        let same : first ≡ response = same-response first response (sym t.0 ∙ ok) in
        record {
          got = inl (
            subst (λ (l : LinkState). IsBroughtBy origin now R l response.message) (sym (link-same mid new t.1))
                (subst (λ (x : DnsResponse). IsBroughtBy origin now R mid.link x.message) same a.brings),
            subst (λ (x : DnsResponse). matches m.metadata.id (Some q) x.message ≡ true) same a.matching,
          );
          whole = ap (λ (x : DnsResponse). x.message.metadata.truncation) (sym same) ∙ e;
        }
    replied true first response mid e a t ok =
        streamed mid.link t.link t.result response a.still t.streams t.after (link-same _ new t.new_is) ok

    concludes : (waited : Outcome) (mid : AskState) (datagram : Message) (response : DnsResponse) → IsSent messages link_calls m (Some q) datagram old waited mid
        → AfterWaiting messages link_calls m.metadata.id q m waited mid outcome new → outcome ≡ Ok response → Concludes response
    concludes (Ok first) mid datagram response s t ok =
        replied first.message.metadata.truncation first response mid refl
        (sent-accepts keep origin now D R makes sound m (Some q) datagram old (Ok first) mid (inr refl) h s first refl) t ok
    concludes (Err error) mid datagram response s t ok =
        absurd (let clash : ◌≡◌ {A = Outcome} (Err error) (Ok response) = sym t.0 ∙ ok in cc)

    at-origin : (zone : ZoneContent) (x : Message) → zone.origin ≡ origin → HoldsAnswer zone q x → HoldsAnswer (zone_with origin zone.rows) q x
    at-origin zone x is holds = subst (λ (o : DomainName). HoldsAnswer (zone_with o zone.rows) q x) is holds

    -- a response holds the answer of rows that stand now, and hold since before the question
    pub asked-answer : (later : List (ℕ × Query)) (response : DnsResponse) → HasNoReuse (sent ++ (m.metadata.id, q) ∷ later)
        → IsAsked messages link_calls m q old outcome new → outcome ≡ Ok response
        → HoldsAnswerThen origin earlier new.link.history now m q response.message
    asked-answer later response once x ok = by (concludes x.waited x.mid x.datagram response x.sent (ends-of x) ok)
      where
        by-reply : (r : ServerReply) (limit : ℕ) → IsKnownReply sent m now earlier new.link.history r → IsMadeBy origin new.link.history now r → response.message ≡ message_of limit r
            → matches m.metadata.id (Some q) response.message ≡ true → response.message.metadata.truncation ≡ false
            → HoldsAnswerThen origin earlier new.link.history now m q response.message
        by-reply r limit (inl (inl s)) made is matched whole =
            absurd (true≢false (sym (repeats-question r.zone (Datagram limit) m.metadata.id q r.datagram s.question s.op_code s.only
            (subst (λ (y : Message). matches m.metadata.id (Some q) y ≡ true) is matched))
            ∙ no-reuse (r.datagram.metadata.id, s.question) (m.metadata.id, q) sent later s.drawn once))
        by-reply r limit (inl (inr u)) made is matched whole =
            absurd (not-update r.zone (Datagram limit) m.metadata.id q r.datagram u (subst (λ (y : Message). matches m.metadata.id (Some q) y ≡ true) is matched))
        by-reply r limit (inr both) made is matched whole =
            let sent-is : response.message ≡ sent_reply r.zone (Datagram limit) m = is ∙ ap (sent_reply r.zone (Datagram limit)) both.0 in
            record {
              rows = r.zone.rows;
              stand = subst (λ (t : ℕ). StandAt new.link.history t r.zone.rows) both.1 made.stand;
              holds = subst (λ (y : Message). HoldsAnswer (zone_with origin r.zone.rows) q y) (sym sent-is)
                  (at-origin r.zone (sent_reply r.zone (Datagram limit) m) made.origin_is
                  (holds-answer r.zone (Datagram limit) m q code only (ap (λ (y : Message). y.metadata.truncation) (sym sent-is) ∙ whole)));
              since = both.2;
              transport = Datagram limit;
              reply = subst (λ (o : DomainName). response.message ≡ sent_reply (zone_with o r.zone.rows) (Datagram limit) m) made.origin_is sent-is;
            }

        by-got : IsGot response → response.message.metadata.truncation ≡ false → HoldsAnswerThen origin earlier new.link.history now m q response.message
        by-got (inl g) whole = by-reply g.0.0 g.0.1 g.0.2 g.0.3 g.0.4 g.1 whole
        by-got (inr g) whole = record {
          rows = g.0.rows;
          stand = g.1;
          holds = subst (λ (y : Message). HoldsAnswer (zone_with origin g.0.rows) q y) (sym g.4)
              (at-origin g.0 (sent_reply g.0 Stream m) g.3
              (holds-answer g.0 Stream m q code only (ap (λ (y : Message). y.metadata.truncation) (sym g.4) ∙ whole)));
          since = g.2;
          transport = Stream;
          reply = subst (λ (o : DomainName). response.message ≡ sent_reply (zone_with o g.0.rows) Stream m) g.3 g.4;
        }

        by : Concludes response → HoldsAnswerThen origin earlier new.link.history now m q response.message
        by c = by-got c.got c.whole
