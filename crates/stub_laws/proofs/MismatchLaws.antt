-- Over the scripted link the stream brings the reply to the question: what it brings is neither unreadable nor another message.
use Rattle.std.proofs.Common.{◌≡◌, ℕ, ◌==◌, ◌&&◌, zero, suc, Bool, true, false, cond, length, Option, Some, None, Result, Ok, Err, refl, sym, ap, subst, ◌∙◌, inl, inr, arith}
use Rattle.std.specs.Prelude.{slice_get, List, [], ◌∷◌}
use Rattle.std.proofs.lemmas.Bool.{true≢false}
use Rattle.std.proofs.lemmas.Bool.Decides.{nat_tests}
use Rattle.std.specs.Str.{str_to_ascii_lowercase}
use Rattle.std.proofs.lemmas.Slice.Eq.{bytes_eq-Decides}
use Rattle.dns_wire.specs.codes.DNSClass.{class_number}
use Rattle.dns_wire.specs.codes.RecordType.{type_number}
use Rattle.dns_names.specs.Compare.{same_labels}
use Rattle.dns_messages.specs.Cut.{cut}
use Rattle.dns_messages.specs.Question.{same_question}
use Rattle.dns_messages.specs.declared.message.Message.{Message}
use Rattle.dns_messages.specs.declared.op_code.OpCode.{OpCode}
use Rattle.dns_messages.specs.declared.op_code.OpCode.TheVariants as ops
use Rattle.dns_messages.specs.declared.query.Query.{Query}
use Rattle.dns_messages.specs.declared.response.DnsResponse.{DnsResponse}
use Rattle.dns_zone.specs.Rows.{ZoneContent}
use Rattle.dns_zone.specs.Serving.{reply_limit, sent_reply}
use Rattle.dns_zone.specs.declared.transport.Transport.{Transport}
use Rattle.dns_zone.specs.declared.transport.Transport.TheVariants.{Stream}
use Rattle.stub_lookup.specs.declared.error.LinkFault.TheVariants as fault
use Rattle.stub_lookup.specs.declared.error.NetError.TheVariants as net
use Rattle.stub_client.specs.Handle.{Outcome}
use Rattle.stub_link.specs.declared.link.LinkError.{LinkError}
use Rattle.stub_link.specs.declared.link.LinkError.TheVariants.{Failed, Memory}
use Rattle.stub_link.specs.Ask.{AfterReply, AfterSending, AfterStream, AfterWaiting, Ask, AskUnder, IsAsked, IsStreamReply, draw, stream_outcome}
use Rattle.stub_link.specs.Ask.IsStreamReply.{matching, unreadable, other, undecoded}
use Rattle.stub_link.specs.AskState.{AskState}
use Rattle.stub_link.specs.Link.{messages}
use Rattle.stub_link.specs.LinkState.{LinkState, link_calls, Streams as StreamsMessage}
use Rattle.stub_link.specs.Reply.{is_reply_code, matches}
use Rattle.stub_link.specs.Request.{with_id}
use Rattle.stub_link.specs.Wait.{Wait, WaitAfter, one_more}
use Rattle.stub_laws.specs.history.Faithful.{IsNoMismatch}
use Rattle.stub_laws.proofs.WholeLaws.{is-query-reply}

same-outcome : (x y : Outcome) → x ≡ y → IsNoMismatch y → IsNoMismatch x
same-outcome x y e h = subst (λ (o : Outcome). IsNoMismatch o) (sym e) h

-- ---- the reply over the stream

labels-same : (labels : List (List ℕ)) → same_labels labels labels ≡ true
labels-same [] = refl
labels-same (l ∷ labels) =
    ap (λ (b : Bool). b && same_labels labels labels) ((bytes_eq-Decides (str_to_ascii_lowercase l) (str_to_ascii_lowercase l)).1 refl)
    ∙ labels-same labels

number-same : (n : ℕ) → (n == n) ≡ true
number-same n = grind (arith, nat_tests)

question-same : (q : Query) → same_question q q ≡ true
question-same q =
    ap (λ (b : Bool). b && ((type_number q.query_type == type_number q.query_type) && (class_number q.query_class == class_number q.query_class)))
    (labels-same q.name.labels)
    ∙ ap (λ (b : Bool). b && (class_number q.query_class == class_number q.query_class)) (number-same (type_number q.query_type))
    ∙ number-same (class_number q.query_class)

-- what the server sends over any transport to a question is its reply
reply-matches : (zone : ZoneContent) (transport : Transport) (m : Message) (q : Query) → m.metadata.op_code ≡ ops.Query → m.queries ≡ q ∷ []
    → matches m.metadata.id (Some q) (sent_reply zone transport m) ≡ true
reply-matches zone transport m q code only =
    subst (λ (r : Message). matches m.metadata.id (Some q) (cut (reply_limit transport m) r) ≡ true) (sym (is-query-reply zone m q code only))
    (ap (λ (op : OpCode). (is_reply_code (Some q) op && (m.metadata.id == m.metadata.id)) && same_question q q) code
    ∙ ap (λ (b : Bool). b && same_question q q) (number-same m.metadata.id) ∙ question-same q)

module _ (m : Message) (q : Query) (code : m.metadata.op_code ≡ ops.Query) (only : m.queries ≡ q ∷ []) where
  whole-reply : (truncated : Bool) (response : DnsResponse) → IsNoMismatch (cond truncated (Err (net.Link fault.Truncated)) (Ok response))
  whole-reply true response = tt
  whole-reply false response = tt

  stream-reply : (zone : ZoneContent) (reply : Message) (outcome : Outcome) → reply ≡ sent_reply zone Stream m
      → IsStreamReply messages m.metadata.id q reply outcome → IsNoMismatch outcome
  stream-reply zone reply outcome is (matching response responds same e) =
      same-outcome outcome (stream_outcome response) e (whole-reply response.message.metadata.truncation response)
  stream-reply zone reply outcome is (unreadable none e) = absurd (none reply refl)
  stream-reply zone reply outcome is (other x decodes differs e) =
      absurd (true≢false (sym (reply-matches zone Stream m q code only)
      ∙ ap (λ (y : Message). matches m.metadata.id (Some q) y) (sym is ∙ sym decodes) ∙ differs))
  stream-reply zone reply outcome is (undecoded e) = same-outcome outcome (Err net.Memory) e tt

  after-stream : (mid link : LinkState) (result : Result Message LinkError) (outcome : Outcome) → StreamsMessage mid m result link
      → AfterStream messages m.metadata.id q result outcome → IsNoMismatch outcome
  after-stream mid link (Ok reply) outcome s t = stream-reply mid.zone reply outcome s.1 t
  after-stream mid link (Err Failed) outcome s t = same-outcome outcome (Err (net.Link fault.StreamFailed)) t tt
  after-stream mid link (Err Memory) outcome s t = same-outcome outcome (Err net.Memory) t tt

  after-reply : (truncated : Bool) (response : DnsResponse) (mid : AskState) (outcome : Outcome) (new : AskState)
      → AfterReply messages link_calls m.metadata.id q m truncated response mid outcome new → IsNoMismatch outcome
  after-reply false response mid outcome new t = same-outcome outcome (Ok response) t.0 tt
  after-reply true response mid outcome new t = after-stream mid.link t.link t.result outcome t.streams t.after

  -- ---- the datagram

  after-waiting : (waited : Outcome) (mid : AskState) (outcome : Outcome) (new : AskState) → IsNoMismatch waited
      → AfterWaiting messages link_calls m.metadata.id q m waited mid outcome new → IsNoMismatch outcome
  after-waiting (Ok response) mid outcome new h t = after-reply response.message.metadata.truncation response mid outcome new t
  after-waiting (Err error) mid outcome new h t = same-outcome outcome (Err error) t.0 h

waited : (left id : ℕ) (question : Option Query) (old : LinkState) (dropped : ℕ) (outcome : Outcome) (new : LinkState) (total : ℕ)
    → Wait messages link_calls left id question old dropped outcome new total → IsNoMismatch outcome
unfolding Wait
waited zero id question old dropped outcome new total w = same-outcome outcome (Err (net.Link fault.NoMatch)) w.0 tt
waited (suc left) id question old dropped outcome new total w =
    go (λ v. waited left id question w.1 (one_more dropped) outcome new total v) w.0 w.3
  where
    mid : LinkState
    mid = w.1

    go : (Wait messages link_calls left id question mid (one_more dropped) outcome new total → IsNoMismatch outcome)
        → (received : Result (Option Message) LinkError)
        → WaitAfter messages id question received mid dropped (λ more. Wait messages link_calls left id question mid more) outcome new total
        → IsNoMismatch outcome
    go on (Ok (Some datagram)) t =
        elim t [
          | inl u ↦ same-outcome outcome (Ok u.response) u.outcome_is tt
          | inr u ↦ elim u [
            | inl v ↦ on v.1
            | inr v ↦ same-outcome outcome (Err net.Memory) v.outcome_is tt
          ]
        ]
    go on (Ok None) t = same-outcome outcome (Err (net.Link fault.Quiet)) t.0 tt
    go on (Err Failed) t = same-outcome outcome (Err (net.Link fault.NotReceived)) t.0 tt
    go on (Err Memory) t = same-outcome outcome (Err net.Memory) t.0 tt

after-sending : (id : ℕ) (question : Option Query) (result : Result (Unit {0}) LinkError) (mid : AskState) (outcome : Outcome)
    (new : AskState) → AfterSending messages link_calls id question result mid outcome new → IsNoMismatch outcome
after-sending id question (Ok done) mid outcome new a = waited 16 id question mid.link mid.dropped outcome a.link a.dropped a.waits
after-sending id question (Err Failed) mid outcome new a = same-outcome outcome (Err (net.Link fault.NotSent)) a.0 tt
after-sending id question (Err Memory) mid outcome new a = same-outcome outcome (Err net.Memory) a.0 tt

-- ---- one question

asked-well : (m : Message) (q : Query) (old : AskState) (outcome : Outcome) (new : AskState) → m.metadata.op_code ≡ ops.Query
    → m.queries ≡ q ∷ [] → IsAsked messages link_calls m q old outcome new → IsNoMismatch outcome
asked-well m q old outcome new code only x =
    after-waiting m q code only x.waited x.mid outcome new
    (after-sending m.metadata.id (Some q) x.sent.result (record old { link = x.sent.link }) x.waited x.mid x.sent.after)
    (subst (λ (d : Message). AfterWaiting messages link_calls m.metadata.id q d x.waited x.mid outcome new) x.sent.encodes x.ends)

under-well : (found : Option ℕ) (m : Message) (q : Query) (old : AskState) (outcome : Outcome) (new : AskState)
    → m.metadata.op_code ≡ ops.Query → m.queries ≡ q ∷ [] → AskUnder messages link_calls found m q old outcome new → IsNoMismatch outcome
under-well None m q old outcome new code only t = same-outcome outcome (Err (net.Link fault.NoId)) t.0 tt
under-well (Some id) m q old outcome new code only (inl t) = same-outcome outcome (Err net.Memory) t.0 tt
under-well (Some id) m q old outcome new code only (inr x) = asked-well (with_id id m) q (draw id q old) outcome new code only x

-- no stream brings anything but the reply
pub no-mismatch : (m : Message) (old : AskState) (outcome : Outcome) (new : AskState) → Ask messages link_calls m old outcome new
    → IsNoMismatch outcome
no-mismatch m old outcome new a =
    elim a.asked [
      | inl u ↦ same-outcome outcome (Err net.Unsupported) u.outcome_is tt
      | inr k ↦ under-well (slice_get old.ids (length old.sent)) m k.question old outcome a.uncounted k.asks.op_code k.asks.only k.asked
    ]
