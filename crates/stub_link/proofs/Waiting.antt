-- Waiting goes on.
use Rattle.std.proofs.Common.{◌≡◌, true, ℕ, zero, suc, ◌-◌, ◌<◌, ◌≤◌, List, Option, Some, None, Result, Err, Ok, refl, subst, inl, inr, arith}
use Rattle.dns_messages.specs.declared.query.Query.{Query}
use Rattle.dns_messages.specs.declared.response.DnsResponse.{DnsResponse}
use Rattle.dns_messages.specs.Header.{peeked_metadata}
use Rattle.stub_lookup.specs.declared.error.LinkFault.{LinkFault}
use Rattle.stub_lookup.specs.declared.error.LinkFault.TheVariants as fault
use Rattle.stub_lookup.specs.declared.error.NetError.{NetError}
use Rattle.stub_lookup.specs.declared.error.NetError.TheVariants as net
use Rattle.stub_client.specs.Handle.{Outcome}
use Rattle.stub_link.specs.declared.link.LinkError.{LinkError}
use Rattle.stub_link.specs.Link.{Calls, Carrier, Rises, wire}
use Rattle.stub_link.specs.Reply.{has_reply_header}
use Rattle.stub_link.specs.Wait.{Wait, WaitAfter, WaitAfterDatagram, one_more}
use Rattle.stub_link.specs.WireHandle.{FailsByLink, FindsReply}

-- what waiting leads to from the middle, with so many receives left, it leads to from the start
abbrev pub LeadsOn : {L D : Type 0} → Carrier D → Calls L D → ℕ → Option Query → ℕ → L → ℕ → ℕ → L → ℕ → Type 0
LeadsOn {L} carrier calls id question left mid dropped all first before =
    (outcome : Outcome) (new : L) (total : ℕ) → Wait carrier calls left id question mid dropped outcome new total
    → Wait carrier calls all id question first before outcome new total

-- a receive is one step of waiting
pub wait-step : {L D : Type 0} (carrier : Carrier D) (calls : Calls L D) (id : ℕ) (question : Option Query) (left : ℕ) (old : L) (dropped : ℕ) (came : Result (Option D) LinkError) (mid : L) (outcome : Outcome) (new : L) (total : ℕ)
    → 0 < left → calls.receives old came mid → WaitAfter carrier id question came mid dropped (λ more. Wait carrier calls (left - 1) id question mid more) outcome new total → Wait carrier calls left id question old dropped outcome new total
unfolding Wait
wait-step carrier calls id question zero old dropped came mid outcome new total h r t = absurd (omega arith)
wait-step carrier calls id question (suc left) old dropped came mid outcome new total h r t =
    let same : suc left - 1 ≡ left = omega arith in
    (came, mid, r, subst (λ (n : ℕ). WaitAfter carrier id question came mid dropped (λ more. Wait carrier calls n id question mid more) outcome new total) same t)

-- no receive is left
pub wait-end : {L D : Type 0} (carrier : Carrier D) (calls : Calls L D) (id : ℕ) (question : Option Query) (left : ℕ) (old : L) (dropped : ℕ) → left ≡ 0 → Wait carrier calls left id question old dropped (Err (net.Link fault.NoMatch)) old dropped
unfolding Wait
wait-end carrier calls id question zero old dropped h = (refl, refl, refl)
wait-end carrier calls id question (suc left) old dropped h = absurd (omega arith)

-- the reply came
pub after-reply : {L : Type 0} (id : ℕ) (question : Option Query) (bytes : List ℕ) (mid : L) (dropped : ℕ) (next : ℕ → Outcome → L → ℕ → Type 0) (response : DnsResponse) → FindsReply id question bytes (Some response)
    → WaitAfterDatagram wire id question bytes mid dropped next (Ok response) mid dropped
after-reply id question bytes mid dropped next response f =
    inl (record { response = response; decodes = f.0; matching = f.1; outcome_is = refl; same = refl; count = refl })

-- another datagram came
pub after-other : {L : Type 0} (id : ℕ) (question : Option Query) (bytes : List ℕ) (mid : L) (dropped : ℕ) (next : ℕ → Outcome → L → ℕ → Type 0) (outcome : Outcome) (new : L) (total : ℕ) → FindsReply id question bytes None → next (one_more dropped) outcome new total
    → WaitAfterDatagram wire id question bytes mid dropped next outcome new total
after-other id question bytes mid dropped next outcome new total f k = inr (inl (f, k))

-- there was no memory for a datagram with the header of a reply
pub after-memory : {L : Type 0} (id : ℕ) (question : Option Query) (bytes : List ℕ) (mid : L) (dropped : ℕ) (next : ℕ → Outcome → L → ℕ → Type 0) → has_reply_header id question (peeked_metadata bytes) ≡ true
    → WaitAfterDatagram wire id question bytes mid dropped next (Err net.Memory) mid dropped
after-memory id question bytes mid dropped next headed = inr (inr (record { headed = headed; outcome_is = refl; same = refl; count = refl }))

-- ---- failures

rises-from : (a b c : ℕ) → a ≤ b → Rises b c → Rises a c
rises-from a b c h (inl r) = inl (omega arith)
rises-from a b c h (inr r) = inr r

-- a failure that a part of a call counts, the call counts
pub fails-from : {X : Type 0} (reply : Result X NetError) (a b c : ℕ) → a ≤ b → FailsByLink reply b c → FailsByLink reply a c
fails-from (Ok x) a b c h f = f
fails-from (Err (net.Link fault.NotSent)) a b c h f = rises-from a b c h f
fails-from (Err (net.Link fault.NotReceived)) a b c h f = rises-from a b c h f
fails-from (Err (net.Link fault.StreamFailed)) a b c h f = rises-from a b c h f
fails-from (Err (net.Link fault.Quiet)) a b c h f = f
fails-from (Err (net.Link fault.NoMatch)) a b c h f = f
fails-from (Err (net.Link fault.Truncated)) a b c h f = f
fails-from (Err (net.Link fault.StreamUnreadable)) a b c h f = f
fails-from (Err (net.Link fault.StreamMismatch)) a b c h f = f
fails-from (Err (net.Link fault.NoId)) a b c h f = f
fails-from (Err (net.Dns e)) a b c h f = f
fails-from (Err (net.Proto e)) a b c h f = f
fails-from (Err (net.Message e)) a b c h f = f
fails-from (Err net.Unsupported) a b c h f = f
fails-from (Err net.Memory) a b c h f = f
