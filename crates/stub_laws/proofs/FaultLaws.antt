-- A question fails by a fault of the link, or by want of memory.
use Rattle.std.proofs.Common.{◌≡◌, ℕ, zero, suc, Bool, true, false, cond, Option, Some, None, Result, Ok, Err, refl, sym, subst, ◌∙◌, inl, inr}
use Rattle.dns_messages.specs.declared.message.Message.{Message}
use Rattle.dns_messages.specs.declared.query.Query.{Query}
use Rattle.dns_messages.specs.declared.response.DnsResponse.{DnsResponse}
use Rattle.stub_lookup.specs.declared.error.LinkFault.TheVariants as fault
use Rattle.stub_lookup.specs.declared.error.NetError.{NetError}
use Rattle.stub_lookup.specs.declared.error.NetError.TheVariants as net
use Rattle.stub_client.specs.Handle.{Outcome}
use Rattle.stub_link.specs.declared.link.LinkError.{LinkError}
use Rattle.stub_link.specs.declared.link.LinkError.TheVariants.{Failed, Memory}
use Rattle.stub_link.specs.Ask.{AfterReply, AfterSending, AfterStream, AfterWaiting, Ask, AskUnder, Asker, IsAsked, IsSent}
use Rattle.stub_link.specs.Ask.IsStreamReply.{matching, unreadable, other, undecoded}
use Rattle.stub_link.specs.Link.{Calls, Carrier}
use Rattle.stub_link.specs.Request.{IsQuestion, with_id}
use Rattle.stub_link.specs.Wait.{Wait, WaitAfter}
use Rattle.std.specs.Prelude.{slice_get, length}
use Rattle.dns_zone.specs.Rows.{ZoneContent}
use Rattle.stub_laws.specs.walk.Answered.{IsAskError, IsZoneOutcome, IsZoneReply}

-- each error that the outcome may be
abbrev pub Fails : Outcome → Type 0
Fails outcome = (error : NetError) → outcome ≡ Err error → IsAskError error

by-error : (outcome : Outcome) (first : NetError) → outcome ≡ Err first → IsAskError first → Fails outcome
by-error outcome first e h = λ error is.
    let same : first ≡ error = (let both : ◌≡◌ {A = Outcome} (Err first) (Err error) = sym e ∙ is in cc) in
    subst IsAskError same h

by-response : (outcome : Outcome) (response : DnsResponse) → outcome ≡ Ok response → Fails outcome
by-response outcome response e = λ error is. absurd (let clash : ◌≡◌ {A = Outcome} (Ok response) (Err error) = sym e ∙ is in cc)

module _ {L D : Type 0} (carrier : Carrier D) (calls : Calls L D) where
  after-receive : (id : ℕ) (question : Option Query) (mid : L) (dropped : ℕ) (next : ℕ → Outcome → L → ℕ → Type 0) (outcome : Outcome) (new : L) (total : ℕ)
      → ((more : ℕ) → next more outcome new total → Fails outcome) → (received : Result (Option D) LinkError)
      → WaitAfter carrier id question received mid dropped next outcome new total → Fails outcome
  after-receive id question mid dropped next outcome new total go (Ok (Some datagram)) (inl reply) = by-response outcome reply.response reply.outcome_is
  after-receive id question mid dropped next outcome new total go (Ok (Some datagram)) (inr (inl rest)) = go _ rest.1
  after-receive id question mid dropped next outcome new total go (Ok (Some datagram)) (inr (inr none)) = by-error outcome net.Memory none.outcome_is tt
  after-receive id question mid dropped next outcome new total go (Ok None) w = by-error outcome (net.Link fault.Quiet) w.0 tt
  after-receive id question mid dropped next outcome new total go (Err Failed) w = by-error outcome (net.Link fault.NotReceived) w.0 tt
  after-receive id question mid dropped next outcome new total go (Err Memory) w = by-error outcome net.Memory w.0 tt

  wait-fails : (left id : ℕ) (question : Option Query) (old : L) (dropped : ℕ) (outcome : Outcome) (new : L) (total : ℕ)
      → Wait carrier calls left id question old dropped outcome new total → Fails outcome
  unfolding Wait
  wait-fails zero id question old dropped outcome new total h = by-error outcome (net.Link fault.NoMatch) h.0 tt
  wait-fails (suc left) id question old dropped outcome new total h =
      after-receive id question h.1 dropped (λ more. Wait carrier calls left id question h.1 more) outcome new total
      (λ more rest. wait-fails left id question h.1 more outcome new total rest) h.0 h.3

  sent-fails : (m : Message) (question : Option Query) (datagram : D) (old : Asker L) (outcome : Outcome) (new : Asker L)
      → IsSent carrier calls m question datagram old outcome new → Fails outcome
  sent-fails m question datagram old outcome new x = by x.result x.after
    where
      by : (result : Result (Unit {0}) LinkError) → AfterSending carrier calls m.metadata.id question result (record old { link = x.link }) outcome new
          → Fails outcome
      by (Ok done) t = wait-fails 16 m.metadata.id question x.link old.dropped outcome t.link t.dropped t.waits
      by (Err Failed) t = by-error outcome (net.Link fault.NotSent) t.0 tt
      by (Err Memory) t = by-error outcome net.Memory t.0 tt

  streamed-fails : (id : ℕ) (q : Query) (result : Result D LinkError) (outcome : Outcome) → AfterStream carrier id q result outcome → Fails outcome
  streamed-fails id q (Ok reply) outcome (matching response is matched e) = by response.message.metadata.truncation e
    where
      by : (b : Bool) → outcome ≡ cond b (Err (net.Link fault.Truncated)) (Ok response) → Fails outcome
      by true e = by-error outcome (net.Link fault.Truncated) e tt
      by false e = by-response outcome response e
  streamed-fails id q (Ok reply) outcome (unreadable none e) = by-error outcome (net.Link fault.StreamUnreadable) e tt
  streamed-fails id q (Ok reply) outcome (other m is differs e) = by-error outcome (net.Link fault.StreamMismatch) e tt
  streamed-fails id q (Ok reply) outcome (undecoded e) = by-error outcome net.Memory e tt
  streamed-fails id q (Err Failed) outcome e = by-error outcome (net.Link fault.StreamFailed) e tt
  streamed-fails id q (Err Memory) outcome e = by-error outcome net.Memory e tt

  asked-fails : (m : Message) (q : Query) (old : Asker L) (outcome : Outcome) (new : Asker L) → IsAsked carrier calls m q old outcome new → Fails outcome
  asked-fails m q old outcome new x = by x.waited (sent-fails m (Some q) x.datagram old x.waited x.mid x.sent) x.ends
    where
      by-reply : (b : Bool) (response : DnsResponse) → AfterReply carrier calls m.metadata.id q x.datagram b response x.mid outcome new → Fails outcome
      by-reply false response t = by-response outcome response t.0
      by-reply true response t = streamed-fails m.metadata.id q t.result outcome t.after

      by : (waited : Outcome) → Fails waited → AfterWaiting carrier calls m.metadata.id q x.datagram waited x.mid outcome new → Fails outcome
      by (Ok response) h t = by-reply response.message.metadata.truncation response t
      by (Err error) h t = by-error outcome error t.0 (h error refl)

  under-fails : (found : Option ℕ) (m : Message) (q : Query) (old : Asker L) (outcome : Outcome) (new : Asker L)
      → AskUnder carrier calls found m q old outcome new → Fails outcome
  under-fails None m q old outcome new t = by-error outcome (net.Link fault.NoId) t.0 tt
  under-fails (Some id) m q old outcome new (inl t) = by-error outcome net.Memory t.0 tt
  under-fails (Some id) m q old outcome new (inr x) = asked-fails (with_id id m) q _ outcome new x

  -- a question that can be sent
  pub ask-fails : (m : Message) (q : Query) (old : Asker L) (outcome : Outcome) (new : Asker L) → IsQuestion m q → Ask carrier calls m old outcome new
      → Fails outcome
  ask-fails m q old outcome new is x = elim x.asked [
    | inl u ↦ absurd (u.no_question q is)
    | inr k ↦ under-fails (slice_get old.ids (length old.sent)) m k.question old outcome x.uncounted k.asked
  ]

-- an outcome that is a response of the zone, or a fault
pub zone-outcome : (zone : ZoneContent) (q : Query) (outcome : Outcome)
    → ((response : DnsResponse) → outcome ≡ Ok response → IsZoneReply zone q response.message) → Fails outcome → IsZoneOutcome zone q outcome
zone-outcome zone q (Ok response) h f = h response refl
zone-outcome zone q (Err (net.Dns error)) h f = f (net.Dns error) refl
zone-outcome zone q (Err error) h f = tt
