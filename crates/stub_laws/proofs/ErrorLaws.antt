-- Over the scripted link an error of a question has a reason: a fault of the link, which is counted, want of memory, or a request that
-- asks no question.
use Rattle.std.proofs.Common.{◌≡◌, ◌≤◌, ◌+◌, ◌-◌, ◌^◌, ℕ, suc, min, length, false, List, [], ◌∷◌, Ok, Err, All, Contains, sym, ap, ◌∙◌, inl, inr, arith}
use Rattle.std.specs.Prelude.{◌⊎◌}
use Rattle.std.proofs.lemmas.Bool.{true≢false}
use Rattle.std.proofs.lemmas.List.Elements.{All-cons, All-nil, All-weaker, Contains-append_right}
use Rattle.dns_messages.specs.declared.message.Message.{Message}
use Rattle.dns_messages.specs.declared.query.Query.{Query}
use Rattle.stub_config.specs.declared.request_options.DnsRequestOptions.{DnsRequestOptions}
use Rattle.stub_lookup.specs.declared.error.NetError.TheVariants as net
use Rattle.stub_client.specs.Handle.{Ask, Led, Outcome, request_for}
use Rattle.stub_client.specs.Request.{request_of}
use Rattle.stub_client.specs.declared.request.DnsRequest.{DnsRequest}
use Rattle.stub_link.specs.Ask as one_question
use Rattle.stub_link.specs.Ask.{faults_after}
use Rattle.stub_link.specs.AskState.{AskState, AskZone}
use Rattle.stub_link.specs.Link.{messages}
use Rattle.stub_link.specs.LinkState.{link_calls}
use Rattle.stub_link.specs.Request.{IsQuestion}
use Rattle.stub_link.specs.SoundQuestion.{IsReplyOrFault}
use Rattle.stub_link.proofs.OutcomeLaws.{question-ends}
use Rattle.stub_laws.specs.answers.Failing.{HasReason, failed_questions, with_fault}
use Rattle.stub_laws.proofs.OutLaws.{IsOut, ask-out}
use Rattle.stub_laws.proofs.StandLaws.{contains-head}

-- ---- what one request ends in

-- a request that asks no question is not supported, and no fault
pub record IsNoQuestion (m : Message) (outcome : Outcome) (old new : ℕ) : Type 0 where
  pub outcome_is : outcome ≡ Err net.Unsupported
  pub no_question : (q : Query) → ¬ IsQuestion m q
  pub none : new ≡ old

ask-ends : (m : Message) (old : AskState) (outcome : Outcome) (new : AskState) → one_question.Ask messages link_calls m old outcome new
    → IsReplyOrFault outcome old.faults new.faults ⊎ IsNoQuestion m outcome old.faults new.faults
ask-ends m old outcome new a =
    elim a.asked [
      | inl u ↦ inr (record {
        outcome_is = u.outcome_is;
        no_question = u.no_question;
        none = ap (λ (s : AskState). s.faults) a.counted
            ∙ ap (λ (o : Outcome). faults_after o a.uncounted.faults) u.outcome_is
            ∙ ap (λ (s : AskState). s.faults) u.same;
      })
      | inr k ↦ inl (question-ends messages link_calls m k.question old outcome new k.asks a)
    ]

-- ---- reasons

more-failed : (q : Query) (outcome : Outcome) (failed : List Query) (p : Query) → Contains failed p → Contains (with_fault q outcome failed) p
more-failed q (Err (net.Link fault)) failed p h = Contains-append_right (q ∷ []) failed p h
more-failed q (Err (net.Dns error)) failed p h = h
more-failed q (Err (net.Proto error)) failed p h = h
more-failed q (Err (net.Message text)) failed p h = h
more-failed q (Err net.Unsupported) failed p h = h
more-failed q (Err net.Memory) failed p h = h
more-failed q (Ok response) failed p h = h

module _ (options : DnsRequestOptions) where
  reason-stays : (few many : List Query) → ((p : Query) → Contains few p → Contains many p) → (q : Query) (outcome : Outcome)
      → HasReason options few q outcome → HasReason options many q outcome
  reason-stays few many among q (Err (net.Link fault)) h = among q h
  reason-stays few many among q (Err (net.Dns error)) h = h
  reason-stays few many among q (Err (net.Proto error)) h = h
  reason-stays few many among q (Err (net.Message text)) h = h
  reason-stays few many among q (Err net.Unsupported) h = h
  reason-stays few many among q (Err net.Memory) h = h
  reason-stays few many among q (Ok response) h = h

  fault-reason : (q : Query) (outcome : Outcome) (failed : List Query) (old new : ℕ) → IsReplyOrFault outcome old new
      → HasReason options (with_fault q outcome failed) q outcome
  fault-reason q (Err (net.Link fault)) failed old new h = contains-head q failed
  fault-reason q (Err (net.Dns error)) failed old new h = absurd h
  fault-reason q (Err (net.Proto error)) failed old new h = absurd h
  fault-reason q (Err (net.Message text)) failed old new h = absurd h
  fault-reason q (Err net.Unsupported) failed old new h = absurd h
  fault-reason q (Err net.Memory) failed old new h = tt
  fault-reason q (Ok response) failed old new h = tt

-- ---- counts

same-count : (old mid new count most : ℕ) → mid ≡ old → min (mid + count) most ≤ new → min (old + count) most ≤ new
same-count old mid new count most same rest = omega (arith, same, rest)

next-count : (old mid new count most : ℕ) → mid ≡ min (old + 1) most → min (mid + count) most ≤ new → min (old + suc count) most ≤ new
next-count old mid new count most same rest = omega (arith, same, rest)

-- each question that failed by a fault of the link is counted
fault-counts : (q : Query) (outcome : Outcome) (failed : List Query) (old mid new : ℕ) → IsReplyOrFault outcome old mid
    → min (mid + length failed) (2 ^ 64 - 1) ≤ new → min (old + length (with_fault q outcome failed)) (2 ^ 64 - 1) ≤ new
fault-counts q (Err (net.Link fault)) failed old mid new h rest = next-count old mid new (length failed) (2 ^ 64 - 1) h rest
fault-counts q (Err (net.Dns error)) failed old mid new h rest = absurd h
fault-counts q (Err (net.Proto error)) failed old mid new h rest = absurd h
fault-counts q (Err (net.Message text)) failed old mid new h rest = absurd h
fault-counts q (Err net.Unsupported) failed old mid new h rest = absurd h
fault-counts q (Err net.Memory) failed old mid new h rest = same-count old mid new (length failed) (2 ^ 64 - 1) h rest
fault-counts q (Ok response) failed old mid new h rest = same-count old mid new (length failed) (2 ^ 64 - 1) h rest

-- ---- the questions of a lookup

zone-out : (old new : AskState) (request : DnsRequest) (now : ℕ) (outcome : Outcome) → AskZone old request now outcome new → IsOut old.link → IsOut new.link
zone-out old new request now outcome (inl s) h = s.1
zone-out old new request now outcome (inr x) h = ask-out request.message old outcome new x h

module _ (options : DnsRequestOptions) (now : ℕ) where
  led-out : (old new : AskState) (asks : List Ask)
      → Led (λ old request now outcome new. AskZone old request now outcome new) options now old asks new → IsOut old.link → IsOut new.link
  led-out old new [] led h = ap (λ (a : AskState). a.link.out_of_memory) led ∙ h
  led-out old new (ask ∷ asks) led h =
      led-out led.0 new asks led.2 (zone-out old led.0 (request_for ask.question options) now ask.outcome led.1 h)

  -- a question has a reason among some, and is counted before others
  pub record Reasons (q : Query) (outcome : Outcome) (failed : List Query) (old new : ℕ) : Type 0 where
    pub reason : HasReason options (with_fault q outcome failed) q outcome
    pub counted : min (old + length (with_fault q outcome failed)) (2 ^ 64 - 1) ≤ new

  no-question-reasons : (q : Query) (outcome : Outcome) (failed : List Query) (old mid new : ℕ) → outcome ≡ Err net.Unsupported
      → ((p : Query) → ¬ IsQuestion (request_of q options) p) → mid ≡ old → min (mid + length failed) (2 ^ 64 - 1) ≤ new
      → Reasons q outcome failed old new
  no-question-reasons q (Err net.Unsupported) failed old mid new is none same rest =
      record { reason = none; counted = same-count old mid new (length failed) (2 ^ 64 - 1) same rest }
  no-question-reasons q (Err (net.Link fault)) failed old mid new is none same rest = absurd (cc)
  no-question-reasons q (Err (net.Dns error)) failed old mid new is none same rest = absurd (cc)
  no-question-reasons q (Err (net.Proto error)) failed old mid new is none same rest = absurd (cc)
  no-question-reasons q (Err (net.Message text)) failed old mid new is none same rest = absurd (cc)
  no-question-reasons q (Err net.Memory) failed old mid new is none same rest = absurd (cc)
  no-question-reasons q (Ok response) failed old mid new is none same rest = absurd (cc)

  ask-reasons : (old mid : AskState) (ask : Ask) (failed : List Query) (new : ℕ)
      → one_question.Ask messages link_calls (request_for ask.question options).message old ask.outcome mid
      → min (mid.faults + length failed) (2 ^ 64 - 1) ≤ new → Reasons ask.question ask.outcome failed old.faults new
  ask-reasons old mid ask failed new a rest =
      elim (ask-ends (request_for ask.question options).message old ask.outcome mid a) [
        | inl h ↦ record {
          reason = fault-reason options ask.question ask.outcome failed old.faults mid.faults h;
          counted = fault-counts ask.question ask.outcome failed old.faults mid.faults new h rest;
        }
        | inr h ↦ no-question-reasons ask.question ask.outcome failed old.faults mid.faults new h.outcome_is h.no_question h.none rest
      ]

  -- the errors of questions that did not run out of memory on the link have reasons, and are counted
  pub record HaveReasons (old new : ℕ) (asks : List Ask) : Type 0 where
    pub reasons : All (λ ask. HasReason options (failed_questions asks) ask.question ask.outcome) asks
    pub counted : min (old + length (failed_questions asks)) (2 ^ 64 - 1) ≤ new

  pub led-reasons : (old new : AskState) (asks : List Ask)
      → Led (λ old request now outcome new. AskZone old request now outcome new) options now old asks new → new.link.out_of_memory ≡ false
      → HaveReasons old.faults new.faults asks
  led-reasons old new [] led memory =
      let same : new.faults ≡ old.faults = ap (λ (a : AskState). a.faults) led in
      record { reasons = All-nil (λ (ask : Ask). HasReason options [] ask.question ask.outcome); counted = omega (arith, same) }
  led-reasons old new (ask ∷ asks) led memory =
      let rest = led-reasons led.0 new asks led.2 memory in
      let first : Reasons ask.question ask.outcome (failed_questions asks) old.faults new.faults =
      elim led.1 [
        | inl s ↦ absurd (true≢false (sym (led-out led.0 new asks led.2 s.1) ∙ memory))
        | inr a ↦ ask-reasons old led.0 ask (failed_questions asks) new.faults a rest.counted
      ] in
      record {
        reasons = All-cons (λ (a : Ask). HasReason options (failed_questions (ask ∷ asks)) a.question a.outcome) ask asks first.reason
            (All-weaker (λ (a : Ask). HasReason options (failed_questions asks) a.question a.outcome)
            (λ (a : Ask). HasReason options (failed_questions (ask ∷ asks)) a.question a.outcome)
            (λ a h. reason-stays options (failed_questions asks) (failed_questions (ask ∷ asks))
            (λ p there. more-failed ask.question ask.outcome (failed_questions asks) p there) a.question a.outcome h) asks rest.reasons);
        counted = first.counted;
      }
