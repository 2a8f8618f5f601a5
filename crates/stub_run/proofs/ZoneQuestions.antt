-- Questions to the zone's server: where no fault is counted, each is answered.
use Rattle.std.proofs.Common.{◌≡◌, ◌<◌, ◌^◌, ℕ, List, [], ◌∷◌, All, true, false, Bool, inl, inr, Ok, Err, refl, sym, ap, ◌∙◌, arith}
use Rattle.std.specs.Prelude.{◌⊎◌, string_bytes}
use Rattle.std.proofs.lemmas.Bool.{true≢false}
use Rattle.std.proofs.lemmas.List.Elements.{All-cons, All-nil}
use Rattle.dns_wire.specs.codes.RecordType.{type_number, type_of}
use Rattle.dns_names.specs.Name.{DomainName}
use Rattle.dns_names.specs.Parse.{Spells, name_of_text}
use Rattle.stub_config.specs.declared.request_options.DnsRequestOptions.{DnsRequestOptions}
use Rattle.stub_lookup.specs.declared.error.NetError.TheVariants as net
use Rattle.stub_client.specs.Handle.{Ask, Led, Outcome, request_for}
use Rattle.stub_client.specs.declared.request.DnsRequest.{DnsRequest}
use Rattle.stub_link.specs.AskState.{AskState, AskZone}
use Rattle.stub_link.specs.SoundQuestion.{IsReplyOrFault, IsSoundReply, RepliesSoundly}
use Rattle.stub_link.proofs.OutcomeLaws.{zone-question-ends}
use Rattle.stub_link.proofs.SoundReplies.{zone-replies}
use Rattle.stub_laws.proofs.OutLaws.{ask-out}
use Rattle.stub_run.specs.Questions.{AsksZone, IsAskable, IsOutOfMemory, IsReplyUnlessMemory, RepliesByQuestions}
use Rattle.stub_run.specs.Run.{RepliesByZone, RunState}
use Rattle.stub_run.specs.declared.event.Action.{Action}
use Rattle.stub_run.specs.declared.event.Action.TheVariants as actions
use Rattle.stub_run.specs.declared.report.EventReply.{EventReply}
use Rattle.stub_run.specs.declared.report.EventReply.TheVariants as replies
use Rattle.stub_run.proofs.SupportedLaws.{host-turn, name-turn, resolver-supported, text-short}

zone-stays : (old new : AskState) (request : DnsRequest) (now : ℕ) (outcome : Outcome) → AskZone old request now outcome new
    → IsOutOfMemory old → IsOutOfMemory new
zone-stays old new request now outcome (inl out) h = out.1
zone-stays old new request now outcome (inr a) h = ask-out request.message old outcome new a h

pub zone-replies-soundly : RepliesSoundly (λ (state : AskState). IsOutOfMemory state)
    (λ old request now outcome new. AskZone old request now outcome new)
zone-replies-soundly = record {
  replies = λ old request now outcome new h. by old request now outcome new h new.link.out_of_memory refl;
  stays = λ old request now outcome new h out. zone-stays old new request now outcome h out;
}
  where
    by : (old : AskState) (request : DnsRequest) (now : ℕ) (outcome : Outcome) (new : AskState) → AskZone old request now outcome new
        → (out : Bool) → new.link.out_of_memory ≡ out → IsOutOfMemory new ⊎ IsSoundReply outcome
    by old request now outcome new h true e = inl e
    by old request now outcome new h false e = inr (zone-replies old new request now outcome h e)

-- ---- questions without faults

abbrev IsAnswered : Ask → Type 0
IsAnswered ask = IsReplyUnlessMemory ask.outcome

-- no fault was counted if none was by then
record IsUnfaulted (outcome : Outcome) (old : ℕ) : Type 0 where
  answered : IsReplyUnlessMemory outcome
  none : old ≡ 0

unfaulted : (outcome : Outcome) (old new : ℕ) → IsReplyOrFault outcome old new → new ≡ 0 → IsUnfaulted outcome old
unfaulted (Ok response) old new h e = record { answered = tt; none = sym h ∙ e }
unfaulted (Err net.Memory) old new h e = record { answered = tt; none = sym h ∙ e }
unfaulted (Err (net.Link error)) old new h e = absurd (omega (arith, h, e))
unfaulted (Err (net.Dns error)) old new h e = absurd h
unfaulted (Err (net.Proto error)) old new h e = absurd h
unfaulted (Err (net.Message text)) old new h e = absurd h
unfaulted (Err net.Unsupported) old new h e = absurd h

-- an error is not the meaning of a response, but a fault of the link or want of memory
abbrev pub IsNoMeaning : Outcome → Type 0
IsNoMeaning (Err (net.Dns error)) = ⊥
IsNoMeaning outcome = Unit {0}

no-meaning : (outcome : Outcome) (old new : ℕ) → IsReplyOrFault outcome old new → IsNoMeaning outcome
no-meaning (Ok response) old new h = tt
no-meaning (Err net.Memory) old new h = tt
no-meaning (Err (net.Link error)) old new h = tt
no-meaning (Err (net.Dns error)) old new h = h
no-meaning (Err (net.Proto error)) old new h = tt
no-meaning (Err (net.Message text)) old new h = tt
no-meaning (Err net.Unsupported) old new h = tt

module _ (options : DnsRequestOptions) (now : ℕ) where
  abbrev pub Leads : AskState → List Ask → AskState → Type 0
  Leads old asks new = Led (λ old request now outcome new. AsksZone old request now outcome new) options now old asks new

  led-stays : (old new : AskState) (asks : List Ask) → Leads old asks new → IsOutOfMemory old → IsOutOfMemory new
  led-stays old new [] h out = ap (λ (s : AskState). s.link.out_of_memory) h ∙ out
  led-stays old new (ask ∷ asks) h out =
      led-stays h.0 new asks h.2 (zone-stays old h.0 (request_for ask.question options) now ask.outcome h.1.0 out)

  pub lives-before : (old new : AskState) (asks : List Ask) → Leads old asks new → new.link.out_of_memory ≡ false
      → old.link.out_of_memory ≡ false
  lives-before old new asks h lives = by old.link.out_of_memory refl
    where
      by : (out : Bool) → old.link.out_of_memory ≡ out → old.link.out_of_memory ≡ false
      by false e = e
      by true e = absurd (true≢false (sym (led-stays old new asks h e) ∙ lives))

  -- no error is the meaning of a response
  pub no-meanings : (old new : AskState) (asks : List Ask) → Leads old asks new → new.link.out_of_memory ≡ false
      → All (λ ask. IsNoMeaning ask.outcome) asks
  no-meanings old new [] h lives = All-nil (λ (ask : Ask). IsNoMeaning ask.outcome)
  no-meanings old new (ask ∷ asks) h lives =
      let mid-lives : h.0.link.out_of_memory ≡ false = lives-before h.0 new asks h.2 lives in
      let old-lives : old.link.out_of_memory ≡ false = lives-before old new (ask ∷ asks) h lives in
      All-cons (λ (ask : Ask). IsNoMeaning ask.outcome) ask asks
      (elim h.1.1 [
        | inl out ↦ absurd (true≢false (sym out ∙ old-lives))
        | inr asked ↦
            no-meaning ask.outcome old.faults h.0.faults
            (zone-question-ends old h.0 (request_for ask.question options) asked.0 now ask.outcome asked.1 h.1.0 mid-lives)
      ])
      (no-meanings h.0 new asks h.2 lives)

  led-unfaulted : (old new : AskState) (asks : List Ask) → Leads old asks new → new.link.out_of_memory ≡ false → new.faults ≡ 0
      → (old.faults ≡ 0) × All IsAnswered asks
  led-unfaulted old new [] h lives none = (sym (ap (λ (s : AskState). s.faults) h) ∙ none, All-nil IsAnswered)
  led-unfaulted old new (ask ∷ asks) h lives none =
      let rest = led-unfaulted h.0 new asks h.2 lives none in
      let mid-lives : h.0.link.out_of_memory ≡ false = lives-before h.0 new asks h.2 lives in
      let old-lives : old.link.out_of_memory ≡ false = lives-before old new (ask ∷ asks) h lives in
      let first : IsUnfaulted ask.outcome old.faults =
      elim h.1.1 [
        | inl out ↦ absurd (true≢false (sym out ∙ old-lives))
        | inr asked ↦
            unfaulted ask.outcome old.faults h.0.faults
            (zone-question-ends old h.0 (request_for ask.question options) asked.0 now ask.outcome asked.1 h.1.0 mid-lives) rest.0
      ] in
      (first.none, All-cons IsAnswered ask asks first.answered rest.1)

  pub all-answered : (old new : AskState) (asks : List Ask) → Leads old asks new → new.link.out_of_memory ≡ false → new.faults ≡ 0
      → All IsAnswered asks
  all-answered old new asks h lives none = (led-unfaulted old new asks h lives none).1

-- ---- events

pub event-replies : ((number : ℕ) → type_number (type_of number) ≡ number)
    → ((text : List ℕ) (name : DomainName) → name_of_text text ≡ Ok name → Spells text name)
    → (old new : RunState) (at : ℕ) (action : Action) (reply : EventReply) → IsAskable action → old.settings.options.edns_payload_len < 2 ^ 16
    → RepliesByZone old at action reply new → RepliesByQuestions old at action reply new
event-replies round spells old new at (actions.Lookup name kind) (replies.Lookup found) is small h =
    name-turn (λ asks request now outcome after. AskZone asks request now outcome after)
    (λ asks request now outcome after. AsksZone asks request now outcome after) old new
    (resolver-supported (λ (state : AskState). IsOutOfMemory state)
    (λ asks request now outcome after. AskZone asks request now outcome after) zone-replies-soundly old small)
    round at (Ok name) kind found is.0 is.1 h
event-replies round spells old new at (actions.LookupIp host) (replies.LookupIp found) is small h = record {
  address = h.address;
  is_address = h.is_address;
  lookup = host-turn (λ asks request now outcome after. AskZone asks request now outcome after)
      (λ asks request now outcome after. AsksZone asks request now outcome after) old new
      (resolver-supported (λ (state : AskState). IsOutOfMemory state)
      (λ asks request now outcome after. AskZone asks request now outcome after) zone-replies-soundly old small)
      at h.address (name_of_text (string_bytes host)) found (text-short spells (string_bytes host)) h.lookup;
  settings = h.settings;
}
event-replies round spells old new at (actions.Clear name kind) (replies.Cleared done) is small h = h
event-replies round spells old new at actions.ClearAll (replies.Cleared done) is small h = h
event-replies round spells old new at (actions.Update update) (replies.Update reply) is small h = h
event-replies round spells old new at action reply is small h = absurd h
