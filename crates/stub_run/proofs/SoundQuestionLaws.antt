-- A lookup of a sound question asks sound questions alone.
use Rattle.std.proofs.Common.{◌<◌, ◌^◌, ℕ, suc, Bool, true, false, List, [], ◌∷◌, inl, inr, Option, Some, None, Result, Ok, Err, All, refl, sym, subst, arith}
use Rattle.std.specs.Prelude.{◌≢◌, if◌then◌else◌}
use Rattle.std.proofs.lemmas.List.Elements.{All-cons, All-nil}
use Rattle.std.specs.List.{AllByRecursion}
use Rattle.dns_names.specs.Compare.{same_name}
use Rattle.dns_names.specs.Name.{DomainName}
use Rattle.dns_data.specs.declared.rdata.RData.{RData}
use Rattle.dns_data.specs.declared.rdata.RData.TheVariants as of
use Rattle.dns_records.specs.Record.{Record}
use Rattle.dns_messages.specs.declared.message.Message.{Message}
use Rattle.dns_messages.specs.declared.query.Query.{Query}
use Rattle.stub_config.specs.declared.request_options.DnsRequestOptions.{DnsRequestOptions}
use Rattle.stub_lookup.specs.Outcome.{error_in, unless_error}
use Rattle.stub_lookup.specs.declared.error.DnsError.{DnsError}
use Rattle.stub_lookup.specs.declared.error.NetError.TheVariants as net
use Rattle.stub_cache.specs.Cache.{CacheContent}
use Rattle.stub_client.specs.Handle.{Ask, Behavior, Led, Outcome, request_for}
use Rattle.stub_client.specs.Looks.{Answers, Looks, Proceeds, Reply, lookup_settings}
use Rattle.stub_client.specs.Step.{asks_for_aliases, chain_of, chain_over, chain_start, extended, meaning, next_name, next_question, step_of}
use Rattle.stub_client.specs.declared.caching_client.CachingClient.{CachingClient}
use Rattle.stub_client.specs.declared.caching_client.chain.Chain.{Chain}
use Rattle.stub_client.specs.declared.caching_client.step.LookupSettings.{LookupSettings}
use Rattle.stub_client.specs.declared.caching_client.step.Step.{Step}
use Rattle.stub_client.specs.declared.caching_client.step.Step.TheVariants.{Gives, Misses, Stops, Follows}
use Rattle.stub_client.specs.declared.request.DnsRequest.{DnsRequest}
use Rattle.stub_client.proofs.StepCases.{outcome-cases, reply-cases}
use Rattle.stub_link.specs.declared.link.LinkError.{LinkError}
use Rattle.stub_link.specs.declared.wire_handle.WireHandle.{WireHandle}
use Rattle.stub_link.specs.Link.{calls_of, wire}
use Rattle.stub_link.specs.SoundQuestion.{IsFullName, IsReplyOrFault, IsSoundQuestion, IsSoundReply, LeadsToName, RepliesSoundly, Supported, SupportedUnless}
use Rattle.stub_link.specs.WireHandle.{Asks, asker_of}
use Rattle.stub_link.proofs.OutcomeLaws.{question-ends}
use Rattle.stub_link.proofs.SoundRequests.{request-asks}

-- ---- chains of aliases

abbrev Leads : Record → Type 0
Leads r = LeadsToName r.rdata

alias-named : (chain : Chain) (ttl : ℕ) (target : DomainName) (same : Bool) → IsFullName chain.name → IsFullName target
    → IsFullName (extended chain ttl (if same then Some target else None)).name
alias-named chain ttl target true full leads = leads
alias-named chain ttl target false full leads = full

next-named : (chain : Chain) (ttl : ℕ) (r : Record) (d : RData) → IsFullName chain.name → LeadsToName d
    → IsFullName (extended chain ttl (next_name chain.name r d)).name
next-named chain ttl r (of.CNAME alias) full leads = alias-named chain ttl alias.0 (same_name r.name chain.name) full leads
next-named chain ttl r (of.SRV service) full leads = leads
next-named chain ttl r (of.A a) full leads = full
next-named chain ttl r (of.AAAA a) full leads = full
next-named chain ttl r (of.NS n) full leads = full
next-named chain ttl r (of.PTR p) full leads = full
next-named chain ttl r (of.MX m) full leads = full
next-named chain ttl r (of.SOA s) full leads = full
next-named chain ttl r (of.TXT t) full leads = full
next-named chain ttl r (of.OPT o) full leads = full
next-named chain ttl r (of.Update0 t) full leads = full
next-named chain ttl r (of.Unknown code bytes) full leads = full

chain-named : (chain : Chain) (rs : List Record) → IsFullName chain.name → AllByRecursion Leads rs
    → IsFullName (chain_over chain rs).name
chain-named chain [] full leads = full
chain-named chain (r ∷ rs) full leads =
    chain-named (extended chain r.ttl (next_name chain.name r r.rdata)) rs (next-named chain r.ttl r r.rdata full leads.0) leads.1

chosen-named : (aliases : Bool) (q : Query) (rs : List Record) → IsFullName q.name → AllByRecursion Leads rs
    → IsFullName (if aliases then chain_start q else chain_over (chain_start q) rs).name
chosen-named true q rs full leads = full
chosen-named false q rs full leads = chain-named (chain_start q) rs full leads

next-sound : (q : Query) (m : Message) → IsSoundQuestion q → AllByRecursion Leads m.answers
    → IsSoundQuestion (next_question q (chain_of q m))
next-sound q m s leads =
    let full : IsFullName (chain_of q m).name =
    chosen-named (asks_for_aliases q) q m.answers (record { fqdn = s.sound.fqdn; short = s.short }) leads in
    record {
      sound = record {
        fqdn = full.fqdn;
        type_fits = s.sound.type_fits;
        type_named = s.sound.type_named;
        class_fits = omega arith;
        class_named = refl;
      };
      short = full.short;
    }

-- ---- steps

-- the next question of a step, if there is one, is sound
abbrev IsSoundStep : Step → Type 0
IsSoundStep (Gives m) = Unit {0}
IsSoundStep (Misses answer) = Unit {0}
IsSoundStep (Stops error) = Unit {0}
IsSoundStep (Follows target kept) = IsSoundQuestion target

meaning-sound : (out : Outcome) → IsSoundReply out → IsSoundReply (meaning out)
meaning-sound (Err error) h = tt
meaning-sound (Ok response) h = by (error_in response.message)
  where
    by : (error : Option DnsError) → IsSoundReply (unless_error response error)
    by None = h
    by (Some error) = tt

step-sound : (settings : LookupSettings) (q : Query) (kept : List Record) (depth : ℕ) (out : Outcome) → IsSoundQuestion q
    → IsSoundReply out → IsSoundStep (step_of settings q kept depth out)
step-sound settings q kept depth out s h =
    outcome-cases settings q kept depth IsSoundStep (meaning out)
    (λ response e.
    reply-cases settings q kept depth IsSoundStep response.message (λ given. tt) (λ given ends. tt)
    (λ given ends alias below.
    next-sound q response.message s (subst (λ (o : Outcome). IsSoundReply o) e (meaning-sound out h)))
    tt)
    (λ answer. tt) (λ error fails e. tt)

-- ---- lookups

-- each ask has a sound question, until one that has no sound reply
abbrev AreSound : List Ask → Type 0
AreSound [] = Unit {0}
AreSound (ask ∷ asks) = IsSoundQuestion ask.question × (IsSoundReply ask.outcome → AreSound asks)

proceeds : (next : Query → List Record → Reply → CacheContent → Type 0) (now : ℕ) (old : CacheContent) (q : Query) (step : Step)
    (asks : List Ask) (reply : Reply) (new : CacheContent) → IsSoundStep step
    → ((target : Query) (kept : List Record) (inner : Reply) (mid : CacheContent) → IsSoundQuestion target
    → next target kept inner mid → AreSound asks)
    → Proceeds next now old q step asks reply new → AreSound asks
proceeds next now old q (Gives m) asks reply new s rest h = subst (λ (xs : List Ask). AreSound xs) (sym h.0) tt
proceeds next now old q (Misses answer) asks reply new s rest h = subst (λ (xs : List Ask). AreSound xs) (sym h.0) tt
proceeds next now old q (Stops error) asks reply new s rest h = subst (λ (xs : List Ask). AreSound xs) (sym h.0) tt
proceeds next now old q (Follows target kept) asks reply new s rest h = rest target kept h.0 h.1 s h.2

pub sound-asks : (settings : LookupSettings) (now depth : ℕ) (kept : List Record) (old : CacheContent) (q : Query) (asks : List Ask)
    (reply : Reply) (new : CacheContent) → IsSoundQuestion q → Looks settings now depth kept old q asks reply new → AreSound asks
sound-asks settings now depth kept old q [] reply new s h = tt
sound-asks settings now depth kept old q (ask ∷ asks) reply new s h = (
  subst IsSoundQuestion (sym h.0) s,
  λ sound. elim h.3 [
    | inl memory ↦ subst (λ (xs : List Ask). AreSound xs) (sym memory.0) tt
    | inr goes ↦ proceeds (λ target aliases inner mid. Looks settings now (suc depth) aliases old target asks inner mid) now old q
        (step_of settings q kept depth ask.outcome) asks reply new (step-sound settings q kept depth ask.outcome s sound)
        (λ target aliases inner mid s looks. sound-asks settings now (suc depth) aliases old target asks inner mid s looks) goes
  ],
)

-- ---- handles

module _ {H : Type 0} (GivenUp : H → Type 0) (gives : Behavior H) (replies : RepliesSoundly GivenUp gives) (options : DnsRequestOptions)
    (small : options.edns_payload_len < 2 ^ 16) (now : ℕ) where
  led-on : (old new : H) (asks : List Ask) → GivenUp old → Led gives options now old asks new
      → Led (SupportedUnless GivenUp gives) options now old asks new
  led-on old new [] up h = h
  led-on old new (ask ∷ asks) up h =
      (h.0, (h.1, inl up), led-on h.0 new asks (replies.stays old (request_for ask.question options) now ask.outcome h.0 h.1 up) h.2)

  led-supported : (old new : H) (asks : List Ask) → AreSound asks → Led gives options now old asks new
      → Led (SupportedUnless GivenUp gives) options now old asks new
  led-supported old new [] s h = h
  led-supported old new (ask ∷ asks) s h = (
    h.0,
    (h.1, inr (ask.question, request-asks ask.question options s.0 small)),
    elim (replies.replies old (request_for ask.question options) now ask.outcome h.0 h.1) [
      | inl up ↦ led-on h.0 new asks up h.2
      | inr sound ↦ led-supported h.0 new asks (s.1 sound) h.2
    ],
  )

  pub answers-supported : (old new : CachingClient H) (q : Query) (reply : Reply) → IsSoundQuestion q
      → Answers gives options now old q reply new → Answers (SupportedUnless GivenUp gives) options now old q reply new
  answers-supported old new q reply s h = record {
    asks = h.asks;
    led = led-supported old.handle new.handle h.asks
        (sound-asks (lookup_settings old options) now 0 [] old.cache q h.asks reply new.cache s h.looks) h.led;
    looks = h.looks;
    few = h.few;
    settings = h.settings;
  }

-- a behavior that allows what another one does
module _ {H : Type 0} (gives others : Behavior H)
    (turn : (old : H) (request : DnsRequest) (now : ℕ) (outcome : Outcome) (new : H) → gives old request now outcome new
    → others old request now outcome new) where
  pub led-turn : (options : DnsRequestOptions) (now : ℕ) (old new : H) (asks : List Ask) → Led gives options now old asks new
      → Led others options now old asks new
  led-turn options now old new [] h = h
  led-turn options now old new (ask ∷ asks) h =
      (h.0, turn old (request_for ask.question options) now ask.outcome h.0 h.1, led-turn options now h.0 new asks h.2)

  pub answers-turn : (options : DnsRequestOptions) (now : ℕ) (old new : CachingClient H) (q : Query) (reply : Reply)
      → Answers gives options now old q reply new → Answers others options now old q reply new
  answers-turn options now old new q reply h = record {
    asks = h.asks;
    led = led-turn options now old.handle new.handle h.asks h.led;
    looks = h.looks;
    few = h.few;
    settings = h.settings;
  }

-- what is true of each outcome that a behavior allows is true of those of a list of asks
pub led-each : {H : Type 0} (gives : Behavior H) (Holds : Outcome → Type 0)
    → ((old : H) (request : DnsRequest) (now : ℕ) (outcome : Outcome) (new : H) → gives old request now outcome new → Holds outcome)
    → (options : DnsRequestOptions) (now : ℕ) (old new : H) (asks : List Ask) → Led gives options now old asks new
    → All (λ ask. Holds ask.outcome) asks
led-each gives Holds each options now old new [] h = All-nil (λ (ask : Ask). Holds ask.outcome)
led-each gives Holds each options now old new (ask ∷ asks) h =
    All-cons (λ (ask : Ask). Holds ask.outcome) ask asks
    (each old (request_for ask.question options) now ask.outcome h.0 h.1) (led-each gives Holds each options now h.0 new asks h.2)

-- a handle that never gives up
abbrev pub Never : {H : Type 0} → H → Type 0
Never handle = ⊥

pub always-supported : {H : Type 0} (gives : Behavior H) (old : H) (request : DnsRequest) (now : ℕ) (outcome : Outcome) (new : H)
    → SupportedUnless (λ (h : H). Never h) gives old request now outcome new → Supported gives old request now outcome new
always-supported gives old request now outcome new h = (
  h.0,
  elim h.1 [
    | inl never ↦ absurd never
    | inr asks ↦ asks
  ],
)

-- ---- what is not refused

pub not-refused : (outcome : Outcome) (old new : ℕ) → IsReplyOrFault outcome old new → outcome ≢ Err net.Unsupported
not-refused outcome old new h e = subst (λ (o : Outcome). IsReplyOrFault o old new) e h

pub none-refused : {L : Type 0} (sends : L → List ℕ → Result (Unit {0}) LinkError → L → Type 0)
    (receives : L → Result (Option (List ℕ)) LinkError → L → Type 0) (streams : L → List ℕ → Result (List ℕ) LinkError → L → Type 0)
    (failure_count : L → ℕ) (options : DnsRequestOptions) (now : ℕ) (old new : WireHandle L) (asks : List Ask)
    → Led (Supported (λ old request now outcome new. Asks sends receives streams failure_count old request now outcome new)) options
    now old asks new
    → All (λ ask. ask.outcome ≢ Err net.Unsupported) asks
none-refused {L} sends receives streams failure_count options now old new asks h =
    led-each (Supported (λ old request now outcome new. Asks sends receives streams failure_count old request now outcome new))
    (λ outcome. outcome ≢ Err net.Unsupported)
    (λ old request now outcome new asked.
    not-refused outcome old.faults new.faults
    (question-ends wire (calls_of sends receives streams) request.message asked.1.0 (asker_of old) outcome (asker_of new) asked.1.1
    asked.0.ask))
    options now old new asks h
