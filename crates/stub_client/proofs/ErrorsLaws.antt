-- An error that a lookup returns, other than a negative answer or want of memory, is what its last outcome means.
use Rattle.std.proofs.Common.{◌≡◌, ℕ, suc, ◌⊎◌, List, [], ◌∷◌, Option, Some, None, Ok, Err, sym, ap, subst, ◌∙◌, inl, inr}
use Rattle.std.specs.Prelude.{◌≢◌}
use Rattle.dns_records.specs.Record.{Record}
use Rattle.dns_messages.specs.declared.query.Query.{Query}
use Rattle.stub_lookup.specs.Lookup.{LookupContent}
use Rattle.stub_lookup.specs.declared.error.DnsError.TheVariants as dns
use Rattle.stub_lookup.specs.declared.error.NetError.{NetError}
use Rattle.stub_lookup.specs.declared.error.NetError.TheVariants as errors
use Rattle.stub_lookup.specs.declared.error.NoRecords.{NoRecords}
use Rattle.stub_cache.specs.Cache.{CacheContent, Kept, current}
use Rattle.stub_client.specs.Handle.{Ask, Outcome}
use Rattle.stub_client.specs.Laws.{IsFailure}
use Rattle.stub_client.specs.Looks.{IsAnsweredHere, Looks, Proceeds, Reply, Stores, given_reply, kept_of, negative, out_of_memory}
use Rattle.stub_client.specs.Outcomes.{EndsInError}
use Rattle.stub_client.specs.SpecialNames.{special_answer}
use Rattle.stub_client.specs.Step.{meaning, step_of, step_on}
use Rattle.stub_client.specs.declared.caching_client.step.LookupSettings.{LookupSettings}
use Rattle.stub_client.specs.declared.caching_client.step.Step.{Step}
use Rattle.stub_client.specs.declared.caching_client.step.Step.TheVariants.{Gives, Misses, Stops, Follows}
use Rattle.stub_client.specs.declared.special_names.SpecialAnswer.{SpecialAnswer}
use Rattle.stub_client.specs.declared.special_names.SpecialAnswer.TheVariants.{Ordinary, Loopback, Nothing}
use Rattle.stub_client.proofs.StepCases.{outcome-cases, reply-cases}

-- ---- steps

-- a step that fails does so by the error of the outcome
abbrev FailsBy : Outcome → Step → Type 0
FailsBy out (Gives m) = Unit {0}
FailsBy out (Misses answer) = Unit {0}
FailsBy out (Stops error) = IsFailure error → out ≡ Err error
FailsBy out (Follows target kept) = Unit {0}

fails-by : (settings : LookupSettings) (q : Query) (kept : List Record) (depth : ℕ) (out : Outcome)
    → FailsBy out (step_on settings q kept depth out)
fails-by settings q kept depth out =
    outcome-cases settings q kept depth (FailsBy out) out
    (λ response is. reply-cases settings q kept depth (FailsBy out) response.message (λ given. tt) (λ not-given ends. tt)
    (λ not-given no-end alias above. tt) (λ failure. absurd (cc)))
    (λ answer. tt) (λ error failure is again. is)

-- ---- replies

-- what is stored is returned, or memory runs out
returned : (now : ℕ) (old : CacheContent) (q : Query) (o : Option Kept) (given reply : Reply) (new : CacheContent)
    → Stores now old q o given reply new → (reply ≡ given) ⊎ (reply ≡ out_of_memory)
returned now old q None given reply new h = inl h.0
returned now old q (Some kept) given reply new (inl h) = inl h.0
returned now old q (Some kept) given reply new (inr h) = inr h.0

module _ (error : NetError) (failure : IsFailure error) (memory : error ≢ errors.Memory) where
  no-memory : (reply : Reply) → reply ≡ out_of_memory → reply ≡ Err error → ⊥
  no-memory reply is fails = memory (cc)

  no-lookup : (reply : Reply) (lookup : LookupContent) → reply ≡ Ok lookup → reply ≡ Err error → ⊥
  no-lookup reply lookup is fails = cc

  no-answer : (reply : Reply) (answer : NoRecords) → reply ≡ negative answer → reply ≡ Err error → ⊥
  no-answer reply answer is fails =
      let same : error ≡ errors.Dns (dns.NoRecordsFound answer) = cc in
      let stored : IsFailure (errors.Dns (dns.NoRecordsFound answer)) = subst IsFailure same failure in
      absurd (cc)

  answered : (now : ℕ) (q : Query) (special : SpecialAnswer) (hit : Option Kept) (reply : Reply)
      → IsAnsweredHere now q special hit reply → reply ≡ Err error → ⊥
  answered now q (Loopback r) hit reply is fails = no-lookup reply _ is fails
  answered now q (Nothing code) hit reply is fails = no-answer reply _ is fails
  answered now q Ordinary (Some (Ok m)) reply is fails = no-lookup reply _ is fails
  answered now q Ordinary (Some (Err answer)) reply is fails = no-answer reply answer is fails
  answered now q Ordinary None reply is fails = is

  one-before : (ask : Ask) (asks : List Ask) → EndsInError asks error → EndsInError (ask ∷ asks) error
  one-before ask asks h = record {
    earlier = ask ∷ h.earlier;
    last = h.last;
    is_last = ap (λ (xs : List Ask). ask ∷ xs) h.is_last;
    is_error = h.is_error;
  }

  proceeds-end : (next : Query → List Record → Reply → CacheContent → Type 0) (now : ℕ) (old : CacheContent) (q : Query) (step : Step)
      (ask : Ask) (asks : List Ask) (reply : Reply) (new : CacheContent)
      → ((target : Query) (kept : List Record) (inner : Reply) (mid : CacheContent) → next target kept inner mid → inner ≡ Err error
      → EndsInError asks error)
      → FailsBy (meaning ask.outcome) step → Proceeds next now old q step asks reply new → reply ≡ Err error
      → EndsInError (ask ∷ asks) error
  proceeds-end next now old q (Gives m) ask asks reply new rest by h fails =
      elim (returned now old q (Some (Ok m)) (given_reply old.config now q m) reply new h.1) [
        | inl is ↦ absurd (no-lookup reply _ is fails)
        | inr is ↦ absurd (no-memory reply is fails)
      ]
  proceeds-end next now old q (Misses answer) ask asks reply new rest by h fails =
      elim (returned now old q (Some (Err answer)) (negative answer) reply new h.1) [
        | inl is ↦ absurd (no-answer reply answer is fails)
        | inr is ↦ absurd (no-memory reply is fails)
      ]
  proceeds-end next now old q (Stops other) ask asks reply new rest by h fails =
      let same : other ≡ error = cc in
      record {
        earlier = [];
        last = ask;
        is_last = ap (λ (xs : List Ask). ask ∷ xs) h.0;
        is_error = subst (λ (e : NetError). IsFailure e → meaning ask.outcome ≡ Err e) same by failure;
      }
  proceeds-end next now old q (Follows target kept) ask asks reply new rest by h fails =
      elim (returned now h.1 q (kept_of q h.0) h.0 reply new h.3) [
        | inl is ↦ one-before ask asks (rest target kept h.0 h.1 h.2 (sym is ∙ fails))
        | inr is ↦ absurd (no-memory reply is fails)
      ]

  -- The last outcome of a lookup means the error that it returns.
  pub error-ends : (settings : LookupSettings) (now depth : ℕ) (kept : List Record) (old : CacheContent) (q : Query) (asks : List Ask)
      (reply : Reply) (new : CacheContent)
      → Looks settings now depth kept old q asks reply new → reply ≡ Err error → EndsInError asks error
  error-ends settings now depth kept old q [] reply new h fails = elim h.1 [
    | inl is ↦ absurd (no-memory reply is fails)
    | inr is ↦ absurd (answered now q (special_answer q) (current old.entries q now) reply is fails)
  ]
  error-ends settings now depth kept old q (ask ∷ asks) reply new h fails = elim h.3 [
    | inl is ↦ absurd (no-memory reply is.2 fails)
    | inr goes ↦
        proceeds-end (λ target aliases inner mid. Looks settings now (suc depth) aliases old target asks inner mid) now old q
        (step_of settings q kept depth ask.outcome) ask asks reply new
        (λ target aliases inner mid looks is. error-ends settings now (suc depth) aliases old target asks inner mid looks is)
        (fails-by settings q kept depth (meaning ask.outcome)) goes fails
  ]
