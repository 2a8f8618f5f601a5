-- What asking a question ends in: a response that was decoded, a fault of the link, which is counted, or want of memory.
use Rattle.std.proofs.Common.{◌≡◌, ℕ, zero, suc, Bool, true, false, length, inl, inr, Option, Some, None, Result, Ok, Err, sym, ap, subst, ◌∙◌}
use Rattle.std.specs.Prelude.{if◌then◌else◌, slice_get}
use Rattle.std.proofs.lemmas.Bool.{true≢false}
use Rattle.dns_messages.specs.declared.query.Query.{Query}
use Rattle.dns_messages.specs.declared.message.Message.{Message}
use Rattle.dns_messages.specs.declared.response.DnsResponse.{DnsResponse}
use Rattle.stub_lookup.specs.declared.error.LinkFault.TheVariants as fault
use Rattle.stub_lookup.specs.declared.error.NetError.TheVariants as net
use Rattle.stub_client.specs.Handle.{Outcome}
use Rattle.stub_client.specs.declared.request.DnsRequest.{DnsRequest}
use Rattle.stub_link.specs.declared.link.LinkError.{LinkError}
use Rattle.stub_link.specs.declared.link.LinkError.TheVariants.{Failed, Memory}
use Rattle.stub_link.specs.Link.{Calls, Carrier, messages}
use Rattle.stub_link.specs.Request.{IsQuestion}
use Rattle.stub_link.specs.Wait.{Wait, WaitAfter, one_more}
use Rattle.stub_link.specs.Ask.{AfterReply, AfterSending, AfterStream, AfterWaiting, Ask, AskUnder, Asker, IsStreamReply, draw, faults_after, matching, other, stream_outcome, undecoded, unreadable}
use Rattle.stub_link.specs.AskState.{AskState, AskZone}
use Rattle.stub_link.specs.LinkState.{link_calls}
use Rattle.stub_link.specs.SoundQuestion.{IsReplyOrFault}

-- a response that was decoded, a fault of the link, or want of memory
abbrev pub IsOfLink : {D : Type 0} → Carrier D → Outcome → Type 0
IsOfLink {D} carrier (Ok response) = (datagram : D) × carrier.responds datagram response
IsOfLink carrier (Err (net.Link error)) = Unit {0}
IsOfLink carrier (Err net.Memory) = Unit {0}
IsOfLink carrier (Err error) = ⊥

-- a response was decoded
abbrev pub IsDecoded : {D : Type 0} → Carrier D → Outcome → Type 0
IsDecoded {D} carrier (Ok response) = (datagram : D) × carrier.responds datagram response
IsDecoded carrier (Err error) = Unit {0}

as-of-link : {D : Type 0} (carrier : Carrier D) (x y : Outcome) → x ≡ y → IsOfLink carrier y → IsOfLink carrier x
as-of-link carrier x y e h = subst (λ (o : Outcome). IsOfLink carrier o) (sym e) h

-- ---- a datagram and its reply

wait-of-link : {L D : Type 0} (carrier : Carrier D) (calls : Calls L D) (left id : ℕ) (question : Option Query) (old : L)
    (dropped : ℕ) (outcome : Outcome) (new : L) (total : ℕ)
    → Wait carrier calls left id question old dropped outcome new total → IsOfLink carrier outcome
unfolding Wait
wait-of-link carrier calls zero id question old dropped outcome new total w = as-of-link carrier outcome _ w.0 tt
wait-of-link {L} {D} carrier calls (suc left) id question old dropped outcome new total w =
    go (λ v. wait-of-link carrier calls left id question w.1 (one_more dropped) outcome new total v) w.0 w.3
  where
    mid : L
    mid = w.1

    go : (Wait carrier calls left id question mid (one_more dropped) outcome new total → IsOfLink carrier outcome)
        → (received : Result (Option D) LinkError)
        → WaitAfter carrier id question received mid dropped (λ more. Wait carrier calls left id question mid more) outcome new total
        → IsOfLink carrier outcome
    go on (Ok (Some datagram)) t =
        elim t [
          | inl u ↦ as-of-link carrier outcome (Ok u.response) u.outcome_is (datagram, u.decodes)
          | inr u ↦ elim u [
            | inl v ↦ on v.1
            | inr v ↦ as-of-link carrier outcome (Err net.Memory) v.outcome_is tt
          ]
        ]
    go on (Ok None) t = as-of-link carrier outcome (Err (net.Link fault.Quiet)) t.0 tt
    go on (Err Failed) t = as-of-link carrier outcome (Err (net.Link fault.NotReceived)) t.0 tt
    go on (Err Memory) t = as-of-link carrier outcome (Err net.Memory) t.0 tt

module _ {L D : Type 0} (carrier : Carrier D) (calls : Calls L D) where
  after-of-link : (id : ℕ) (question : Option Query) (result : Result (Unit {0}) LinkError) (mid : Asker L) (outcome : Outcome)
      (new : Asker L) → AfterSending carrier calls id question result mid outcome new → IsOfLink carrier outcome
  after-of-link id question (Ok done) mid outcome new a =
      wait-of-link carrier calls 16 id question mid.link mid.dropped outcome a.link a.dropped a.waits
  after-of-link id question (Err Failed) mid outcome new a = as-of-link carrier outcome (Err (net.Link fault.NotSent)) a.0 tt
  after-of-link id question (Err Memory) mid outcome new a = as-of-link carrier outcome (Err net.Memory) a.0 tt

  after-faults : (id : ℕ) (question : Option Query) (result : Result (Unit {0}) LinkError) (mid : Asker L) (outcome : Outcome)
      (new : Asker L) → AfterSending carrier calls id question result mid outcome new → new.faults ≡ mid.faults
  after-faults id question (Ok done) mid outcome new a = ap (λ (s : Asker L). s.faults) a.new_is
  after-faults id question (Err Failed) mid outcome new a = ap (λ (s : Asker L). s.faults) a.1
  after-faults id question (Err Memory) mid outcome new a = ap (λ (s : Asker L). s.faults) a.1

  -- ---- the stream

  whole-of-link : (truncated : Bool) (datagram : D) (response : DnsResponse) → carrier.responds datagram response
      → IsOfLink carrier (if truncated then Err (net.Link fault.Truncated) else Ok response)
  whole-of-link true datagram response r = tt
  whole-of-link false datagram response r = (datagram, r)

  stream_reply-of-link : (id : ℕ) (q : Query) (reply : D) (outcome : Outcome) → IsStreamReply carrier id q reply outcome
      → IsOfLink carrier outcome
  stream_reply-of-link id q reply outcome (matching response responds same e) =
      as-of-link carrier outcome (stream_outcome response) e
      (whole-of-link response.message.metadata.truncation reply response responds)
  stream_reply-of-link id q reply outcome (unreadable none e) =
      as-of-link carrier outcome (Err (net.Link fault.StreamUnreadable)) e tt
  stream_reply-of-link id q reply outcome (other m decodes different e) =
      as-of-link carrier outcome (Err (net.Link fault.StreamMismatch)) e tt
  stream_reply-of-link id q reply outcome (undecoded e) = as-of-link carrier outcome (Err net.Memory) e tt

  stream-of-link : (id : ℕ) (q : Query) (result : Result D LinkError) (outcome : Outcome) → AfterStream carrier id q result outcome
      → IsOfLink carrier outcome
  stream-of-link id q (Ok reply) outcome s = stream_reply-of-link id q reply outcome s
  stream-of-link id q (Err Failed) outcome s = as-of-link carrier outcome (Err (net.Link fault.StreamFailed)) s tt
  stream-of-link id q (Err Memory) outcome s = as-of-link carrier outcome (Err net.Memory) s tt

  -- ---- one question

  reply-of-link : (id : ℕ) (q : Query) (datagram : D) (truncated : Bool) (response : DnsResponse) (mid : Asker L)
      (outcome : Outcome) (new : Asker L) → IsOfLink carrier (Ok response)
      → AfterReply carrier calls id q datagram truncated response mid outcome new → IsOfLink carrier outcome
  reply-of-link id q datagram false response mid outcome new h t = as-of-link carrier outcome (Ok response) t.0 h
  reply-of-link id q datagram true response mid outcome new h t = stream-of-link id q t.result outcome t.after

  reply-faults : (id : ℕ) (q : Query) (datagram : D) (truncated : Bool) (response : DnsResponse) (mid : Asker L)
      (outcome : Outcome) (new : Asker L) → AfterReply carrier calls id q datagram truncated response mid outcome new
      → new.faults ≡ mid.faults
  reply-faults id q datagram false response mid outcome new t = ap (λ (s : Asker L). s.faults) t.1
  reply-faults id q datagram true response mid outcome new t = ap (λ (s : Asker L). s.faults) t.new_is

  waiting-of-link : (id : ℕ) (q : Query) (datagram : D) (waited : Outcome) (mid : Asker L) (outcome : Outcome) (new : Asker L)
      → IsOfLink carrier waited → AfterWaiting carrier calls id q datagram waited mid outcome new → IsOfLink carrier outcome
  waiting-of-link id q datagram (Ok response) mid outcome new h t =
      reply-of-link id q datagram response.message.metadata.truncation response mid outcome new h t
  waiting-of-link id q datagram (Err error) mid outcome new h t = as-of-link carrier outcome (Err error) t.0 h

  waiting-faults : (id : ℕ) (q : Query) (datagram : D) (waited : Outcome) (mid : Asker L) (outcome : Outcome) (new : Asker L)
      → AfterWaiting carrier calls id q datagram waited mid outcome new → new.faults ≡ mid.faults
  waiting-faults id q datagram (Ok response) mid outcome new t =
      reply-faults id q datagram response.message.metadata.truncation response mid outcome new t
  waiting-faults id q datagram (Err error) mid outcome new t = ap (λ (s : Asker L). s.faults) t.1

  under-of-link : (found : Option ℕ) (m : Message) (q : Query) (old : Asker L) (outcome : Outcome) (new : Asker L)
      → AskUnder carrier calls found m q old outcome new → IsOfLink carrier outcome
  under-of-link None m q old outcome new t = as-of-link carrier outcome (Err (net.Link fault.NoId)) t.0 tt
  under-of-link (Some id) m q old outcome new (inl t) = as-of-link carrier outcome (Err net.Memory) t.0 tt
  under-of-link (Some id) m q old outcome new (inr x) =
      waiting-of-link id q x.datagram x.waited x.mid outcome new
      (after-of-link id (Some q) x.sent.result (record (draw id q old) { link = x.sent.link }) x.waited x.mid x.sent.after) x.ends

  under-faults : (found : Option ℕ) (m : Message) (q : Query) (old : Asker L) (outcome : Outcome) (new : Asker L)
      → AskUnder carrier calls found m q old outcome new → new.faults ≡ old.faults
  under-faults None m q old outcome new t = ap (λ (s : Asker L). s.faults) t.1
  under-faults (Some id) m q old outcome new (inl t) =
      elim t.1 [
        | inl e ↦ ap (λ (s : Asker L). s.faults) e
        | inr e ↦ ap (λ (s : Asker L). s.faults) e
      ]
  under-faults (Some id) m q old outcome new (inr x) =
      waiting-faults id q x.datagram x.waited x.mid outcome new x.ends
      ∙ after-faults id (Some q) x.sent.result (record (draw id q old) { link = x.sent.link }) x.waited x.mid x.sent.after

  -- ---- outcomes

  counted : (outcome : Outcome) (old new : ℕ) → IsOfLink carrier outcome → new ≡ faults_after outcome old
      → IsReplyOrFault outcome old new
  counted (Ok response) old new h e = e
  counted (Err (net.Link error)) old new h e = e
  counted (Err net.Memory) old new h e = e
  counted (Err (net.Dns error)) old new h e = absurd h
  counted (Err (net.Proto error)) old new h e = absurd h
  counted (Err (net.Message text)) old new h e = absurd h
  counted (Err net.Unsupported) old new h e = absurd h

  pub question-ends : (m : Message) (q : Query) (old : Asker L) (outcome : Outcome) (new : Asker L) → IsQuestion m q
      → Ask carrier calls m old outcome new → IsReplyOrFault outcome old.faults new.faults
  question-ends m q old outcome new h a =
      elim a.asked [
        | inl u ↦ absurd (u.no_question q h)
        | inr k ↦
            counted outcome old.faults new.faults
            (under-of-link (slice_get old.ids (length old.sent)) m k.question old outcome a.uncounted k.asked)
            (ap (λ (s : Asker L). s.faults) a.counted
            ∙ ap (λ (n : ℕ). faults_after outcome n)
            (under-faults (slice_get old.ids (length old.sent)) m k.question old outcome a.uncounted k.asked))
      ]

  decoded : (outcome : Outcome) → IsOfLink carrier outcome → IsDecoded carrier outcome
  decoded (Ok response) h = h
  decoded (Err error) h = tt

  pub responses-decode : (m : Message) (old : Asker L) (outcome : Outcome) (new : Asker L) → Ask carrier calls m old outcome new
      → IsDecoded carrier outcome
  responses-decode m old outcome new a =
      elim a.asked [
        | inl u ↦ subst (λ (o : Outcome). IsDecoded carrier o) (sym u.outcome_is) tt
        | inr k ↦
            decoded outcome
            (under-of-link (slice_get old.ids (length old.sent)) m k.question old outcome a.uncounted k.asked)
      ]

-- ---- the zone

pub zone-question-ends : (old new : AskState) (request : DnsRequest) (q : Query) (now : ℕ) (outcome : Outcome)
    → IsQuestion request.message q → AskZone old request now outcome new → new.link.out_of_memory ≡ false
    → IsReplyOrFault outcome old.faults new.faults
zone-question-ends old new request q now outcome h (inl out) lives = absurd (true≢false (sym out.1 ∙ lives))
zone-question-ends old new request q now outcome h (inr a) lives = question-ends messages link_calls request.message q old outcome new h a
