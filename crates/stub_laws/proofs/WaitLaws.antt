-- A request is sent, and its reply awaited: the link keeps its history, and a reply that is accepted was made by the server.
use Rattle.std.proofs.Common.{◌≡◌, ℕ, zero, suc, true, Option, Some, None, Result, Ok, Err, sym, ap, subst, ◌∙◌, inl, inr}
use Rattle.std.specs.Prelude.{◌⊎◌}
use Rattle.dns_names.specs.Name.{DomainName}
use Rattle.dns_messages.specs.Sound.{IsSound}
use Rattle.dns_messages.specs.declared.message.Message.{Message}
use Rattle.dns_messages.specs.declared.op_code.OpCode.TheVariants as ops
use Rattle.dns_messages.specs.declared.query.Query.{Query}
use Rattle.dns_messages.specs.declared.response.DnsResponse.{DnsResponse}
use Rattle.stub_lookup.specs.declared.error.LinkFault.TheVariants as fault
use Rattle.stub_lookup.specs.declared.error.NetError.TheVariants as net
use Rattle.stub_client.specs.Handle.{Outcome}
use Rattle.stub_link.specs.declared.link.LinkError.{LinkError}
use Rattle.stub_link.specs.declared.link.LinkError.TheVariants.{Failed, Memory}
use Rattle.stub_link.specs.Ask.{AfterSending, IsSent}
use Rattle.stub_link.specs.AskState.{AskState}
use Rattle.stub_link.specs.Link.{messages}
use Rattle.stub_link.specs.LinkState.{LinkState, Received, link_calls, receive, send, Receives as ReceivesMessage, Sends as SendsMessage}
use Rattle.stub_link.specs.Reply.{matches}
use Rattle.stub_link.specs.Wait.{Wait, WaitAfter}
use Rattle.stub_laws.specs.history.Faithful.{HasHistory}
use Rattle.stub_laws.specs.history.Stands.{Extends}
use Rattle.stub_laws.proofs.ReceiveLaws.{Brings, Holds, IsBroughtBy, ReplyClaim, Still, fail-still, receive-still, send-still, still-same, still-then}
use Rattle.stub_laws.proofs.ServeLaws.{UpdatesKeepZones}

-- out of memory, or it still holds
abbrev pub StillUnlessOut : DomainName → ℕ → (Message → Type 0) → ReplyClaim → LinkState → LinkState → Type 0
StillUnlessOut origin now D R old new = (new.out_of_memory ≡ true) ⊎ Still origin now D R old new

-- a response was accepted: it is the message of a reply, and it matches
pub record Accepts (origin : DomainName) (now : ℕ) (D : Message → Type 0) (R : ReplyClaim) (id : ℕ) (question : Option Query)
    (old new : LinkState) (response : DnsResponse) : Type 0 where
  pub still : Still origin now D R old new
  pub brings : IsBroughtBy origin now R new response.message
  pub matching : matches id question response.message ≡ true

pub same-response : (first second : DnsResponse) → ◌≡◌ {A = Outcome} (Ok first) (Ok second) → first ≡ second
same-response first second e = cc

module _ (keep : UpdatesKeepZones) (origin : DomainName) (now : ℕ) (D : Message → Type 0) (R : ReplyClaim)
    (makes : (m : Message) (state : LinkState) → HasHistory origin state → Extends R.earlier state.history → D m
    → R.holds state.history (record { datagram = m; zone = state.zone; moment = now }))
    (sound : (m : Message) → D m → m.metadata.op_code ≡ ops.Update → IsSound m) where
  -- nothing else happens
  pub unless-same : (old mid new : LinkState) → StillUnlessOut origin now D R old mid → new ≡ mid → StillUnlessOut origin now D R old new
  unless-same old mid new k e = subst (StillUnlessOut origin now D R old) (sym e) k

  pub unless-then : (old mid new : LinkState) → Still origin now D R old mid → StillUnlessOut origin now D R mid new → StillUnlessOut origin now D R old new
  unless-then old mid new k (inl out) = inl out
  unless-then old mid new k (inr l) = inr (still-then keep origin now D R makes sound old mid new k l)

  -- ---- receives

  received : (old new : LinkState) (datagram : Result (Option Message) LinkError) → Holds origin now D R old
      → receive old ≡ record { datagram = datagram; state = new } → Brings origin now D R old (record { datagram = datagram; state = new })
  received old new datagram h e = subst (λ (x : Received). Brings origin now D R old x) e (receive-still keep origin now D R makes sound old h)

  receives-still : (old new : LinkState) (datagram : Result (Option Message) LinkError) → Holds origin now D R old → ReceivesMessage old datagram new
      → StillUnlessOut origin now D R old new
  receives-still old new (Ok datagram) h r = inr (received old new (Ok datagram) h r).still
  receives-still old new (Err Failed) h r = inr (received old new (Err Failed) h r).still
  receives-still old new (Err Memory) h r = inl r

  -- ---- waiting

  pub wait-still : (left id : ℕ) (question : Option Query) (old : LinkState) (dropped : ℕ) (outcome : Outcome) (new : LinkState) (total : ℕ)
      → Holds origin now D R old → Wait messages link_calls left id question old dropped outcome new total → StillUnlessOut origin now D R old new
  unfolding Wait
  wait-still zero id question old dropped outcome new total h w = unless-same old old new (inr (still-same keep origin now D R makes sound old h)) w.1
  wait-still (suc left) id question old dropped outcome new total h w =
      go w.0 w.2 w.3 (λ more k rest. wait-still left id question w.1 more outcome new total k rest)
    where
      mid : LinkState
      mid = w.1

      go : (datagram : Result (Option Message) LinkError) → ReceivesMessage old datagram mid
          → WaitAfter messages id question datagram mid dropped (λ more. Wait messages link_calls left id question mid more) outcome new total
          → ((more : ℕ) → Holds origin now D R mid → Wait messages link_calls left id question mid more outcome new total → StillUnlessOut origin now D R mid new)
          → StillUnlessOut origin now D R old new
      go (Ok (Some m)) r t next =
          let k = (received old mid (Ok (Some m)) h r).still in
          elim t [
            | inl u ↦ unless-same old mid new (inr k) u.same
            | inr u ↦ elim u [
              | inl v ↦ unless-then old mid new k (next _ k.holds v.1)
              | inr v ↦ unless-same old mid new (inr k) v.same
            ]
          ]
      go (Ok None) r t next = unless-same old mid new (receives-still old mid (Ok None) h r) t.1
      go (Err Failed) r t next = unless-same old mid new (receives-still old mid (Err Failed) h r) t.1
      go (Err Memory) r t next = unless-same old mid new (receives-still old mid (Err Memory) h r) t.1

  pub wait-accepts : (left id : ℕ) (question : Option Query) (old : LinkState) (dropped : ℕ) (outcome : Outcome) (new : LinkState) (total : ℕ)
      (response : DnsResponse) → Holds origin now D R old → Wait messages link_calls left id question old dropped outcome new total → outcome ≡ Ok response
      → Accepts origin now D R id question old new response
  unfolding Wait
  wait-accepts zero id question old dropped outcome new total response h w is =
      absurd (let clash : ◌≡◌ {A = Outcome} (Err (net.Link fault.NoMatch)) (Ok response) = sym w.0 ∙ is in cc)
  wait-accepts (suc left) id question old dropped outcome new total response h w is =
      go w.0 w.2 w.3 (λ more k rest. wait-accepts left id question w.1 more outcome new total response k rest is)
    where
      mid : LinkState
      mid = w.1

      go : (datagram : Result (Option Message) LinkError) → ReceivesMessage old datagram mid
          → WaitAfter messages id question datagram mid dropped (λ more. Wait messages link_calls left id question mid more) outcome new total
          → ((more : ℕ) → Holds origin now D R mid → Wait messages link_calls left id question mid more outcome new total
          → Accepts origin now D R id question mid new response)
          → Accepts origin now D R id question old new response
      go (Ok (Some m)) r t next =
          let k = received old mid (Ok (Some m)) h r in
          elim t [
            | inl u ↦ (let same : u.response ≡ response = same-response u.response response (sym u.outcome_is ∙ is) in record {
              still = subst (λ (s : LinkState). Still origin now D R old s) (sym u.same) k.still;
              brings = subst (λ (s : LinkState). IsBroughtBy origin now R s response.message) (sym u.same)
                  (subst (λ (x : Message). IsBroughtBy origin now R mid x) (sym u.decodes.message ∙ ap (λ (x : DnsResponse). x.message) same) k.brings);
              matching = subst (λ (x : DnsResponse). matches id question x.message ≡ true) same u.matching;
            })
            | inr u ↦ elim u [
              | inl v ↦ (let rest = next _ k.still.holds v.1 in record {
                still = still-then keep origin now D R makes sound old mid new k.still rest.still;
                brings = rest.brings;
                matching = rest.matching;
              })
              | inr v ↦ absurd (let clash : ◌≡◌ {A = Outcome} (Err net.Memory) (Ok response) = sym v.outcome_is ∙ is in cc)
            ]
          ]
      go (Ok None) r t next = absurd (let clash : ◌≡◌ {A = Outcome} (Err (net.Link fault.Quiet)) (Ok response) = sym t.0 ∙ is in cc)
      go (Err Failed) r t next = absurd (let clash : ◌≡◌ {A = Outcome} (Err (net.Link fault.NotReceived)) (Ok response) = sym t.0 ∙ is in cc)
      go (Err Memory) r t next = absurd (let clash : ◌≡◌ {A = Outcome} (Err net.Memory) (Ok response) = sym t.0 ∙ is in cc)

  -- ---- sending

  link-same : (old new : AskState) → new ≡ old → new.link ≡ old.link
  link-same old new e = ap (λ (s : AskState). s.link) e

  module _ (m : Message) (question : Option Query) (datagram : Message) (old : AskState) (outcome : Outcome) (new : AskState) (d : D m)
      (h : Holds origin now D R old.link) (x : IsSent messages link_calls m question datagram old outcome new) where
    sends : SendsMessage old.link m x.result x.link
    sends = subst (λ (g : Message). SendsMessage old.link g x.result x.link) x.encodes x.sends

    sent-state : x.link ≡ send m old.link → Still origin now D R old.link x.link
    sent-state e = subst (λ (s : LinkState). Still origin now D R old.link s) (sym e) (send-still keep origin now D R makes sound m old.link d h)

    pub sent-still : StillUnlessOut origin now D R old.link new.link
    sent-still = go x.result sends x.after
      where
        go : (result : Result (Unit {0}) LinkError) → SendsMessage old.link m result x.link
            → AfterSending messages link_calls m.metadata.id question result (record old { link = x.link }) outcome new
            → StillUnlessOut origin now D R old.link new.link
        go (Ok done) s t =
            let k = sent-state s.1 in
            unless-then old.link x.link new.link k
            (unless-same x.link t.link new.link (wait-still 16 m.metadata.id question x.link old.dropped outcome t.link t.dropped k.holds t.waits) (link-same _ new t.new_is))
        go (Err Failed) s t =
            unless-same old.link x.link new.link
            (inr (subst (λ (l : LinkState). Still origin now D R old.link l) (sym s.1) (fail-still keep origin now D R makes sound old.link h))) (link-same _ new t.1)
        go (Err Memory) s t = unless-same old.link x.link new.link (inl s) (link-same _ new t.1)

    pub sent-accepts : (response : DnsResponse) → outcome ≡ Ok response
        → Accepts origin now D R m.metadata.id question old.link new.link response
    sent-accepts response is = go x.result sends x.after
      where
        go : (result : Result (Unit {0}) LinkError) → SendsMessage old.link m result x.link
            → AfterSending messages link_calls m.metadata.id question result (record old { link = x.link }) outcome new
            → Accepts origin now D R m.metadata.id question old.link new.link response
        go (Ok done) s t =
            let k = sent-state s.1 in
            let a = wait-accepts 16 m.metadata.id question x.link old.dropped outcome t.link t.dropped response k.holds t.waits is in
            let same : new.link ≡ t.link = link-same _ new t.new_is in
            record {
              still = subst (λ (l : LinkState). Still origin now D R old.link l) (sym same) (still-then keep origin now D R makes sound old.link x.link t.link k a.still);
              brings = subst (λ (l : LinkState). IsBroughtBy origin now R l response.message) (sym same) a.brings;
              matching = a.matching;
            }
        go (Err Failed) s t = absurd (let clash : ◌≡◌ {A = Outcome} (Err (net.Link fault.NotSent)) (Ok response) = sym t.0 ∙ is in cc)
        go (Err Memory) s t = absurd (let clash : ◌≡◌ {A = Outcome} (Err net.Memory) (Ok response) = sym t.0 ∙ is in cc)
