-- What a lookup leaves as it was: the settings of the cache and, if the last reply is an error that is not stored, its entries.
use Rattle.std.proofs.Common.{◌≡◌, ℕ, suc, ◌++◌, List, [], ◌∷◌, Option, Some, None, Ok, Err, refl, ap, subst, ◌∙◌, inl, inr}
use Rattle.dns_records.specs.Record.{Record}
use Rattle.dns_messages.specs.declared.query.Query.{Query}
use Rattle.stub_lookup.specs.declared.error.DnsError.TheVariants as dns
use Rattle.stub_lookup.specs.declared.error.NetError.{NetError}
use Rattle.stub_lookup.specs.declared.error.NetError.TheVariants as errors
use Rattle.stub_cache.specs.Cache.{CacheContent, Kept, storing}
use Rattle.stub_client.specs.Handle.{Ask, Outcome}
use Rattle.stub_client.specs.Laws.{IsFailure}
use Rattle.stub_client.specs.Looks.{Looks, MayRunOut, Proceeds, Reply, Stores, given_reply, kept_of, negative}
use Rattle.stub_client.specs.Step.{meaning, step_of, step_on}
use Rattle.stub_client.specs.declared.caching_client.step.LookupSettings.{LookupSettings}
use Rattle.stub_client.specs.declared.caching_client.step.Step.{Step}
use Rattle.stub_client.specs.declared.caching_client.step.Step.TheVariants.{Gives, Misses, Stops, Follows}

-- ---- settings

abbrev pub SameSettings : CacheContent → CacheContent → Type 0
SameSettings old new = (new.capacity ≡ old.capacity) × (new.config ≡ old.config)

same-of-equal : (old new : CacheContent) → new ≡ old → SameSettings old new
same-of-equal old new e = (ap (λ (c : CacheContent). c.capacity) e, ap (λ (c : CacheContent). c.config) e)

stores-same : (now : ℕ) (old : CacheContent) (q : Query) (o : Option Kept) (given reply : Reply) (new : CacheContent)
    → Stores now old q o given reply new → SameSettings old new
stores-same now old q None given reply new h = same-of-equal old new h.1
stores-same now old q (Some kept) given reply new (inl h) = same-of-equal (storing old q kept now) new h.1
stores-same now old q (Some kept) given reply new (inr h) = elim h.1 [
  | inl e ↦ same-of-equal old new e
  | inr e ↦ same-of-equal (storing old q kept now) new e
]

proceeds-same : (next : Query → List Record → Reply → CacheContent → Type 0) (now : ℕ) (old : CacheContent) (q : Query) (step : Step)
    (asks : List Ask) (reply : Reply) (new : CacheContent)
    → ((target : Query) (kept : List Record) (inner : Reply) (mid : CacheContent) → next target kept inner mid → SameSettings old mid)
    → Proceeds next now old q step asks reply new → SameSettings old new
proceeds-same next now old q (Gives m) asks reply new rest h =
    stores-same now old q (Some (Ok m)) (given_reply old.config now q m) reply new h.1
proceeds-same next now old q (Misses answer) asks reply new rest h = stores-same now old q (Some (Err answer)) (negative answer) reply new h.1
proceeds-same next now old q (Stops error) asks reply new rest h = same-of-equal old new h.2
proceeds-same next now old q (Follows target kept) asks reply new rest h =
    let first = rest target kept h.0 h.1 h.2 in
    let second = stores-same now h.1 q (kept_of q h.0) h.0 reply new h.3 in
    (second.0 ∙ first.0, second.1 ∙ first.1)

-- A lookup changes neither capacity nor bounds.
pub settings-stay : (settings : LookupSettings) (now depth : ℕ) (kept : List Record) (old : CacheContent) (q : Query) (asks : List Ask)
    (reply : Reply) (new : CacheContent) → Looks settings now depth kept old q asks reply new → SameSettings old new
settings-stay settings now depth kept old q [] reply new h = same-of-equal old new h.0
settings-stay settings now depth kept old q (ask ∷ asks) reply new h = elim h.3 [
  | inl memory ↦ same-of-equal old new memory.3
  | inr goes ↦ proceeds-same (λ target aliases inner mid. Looks settings now (suc depth) aliases old target asks inner mid) now old q
      (step_of settings q kept depth ask.outcome) asks reply new
      (λ target aliases inner mid looks. settings-stay settings now (suc depth) aliases old target asks inner mid looks) goes
]

-- ---- failures

-- memory is not taken for a failure
takes-no-memory : (error : NetError) → IsFailure error → MayRunOut (Err error) → ⊥
takes-no-memory (errors.Dns (dns.NoRecordsFound answer)) failure h = absurd (cc)
takes-no-memory (errors.Dns (dns.ResponseCode code)) failure h = h
takes-no-memory (errors.Proto error) failure h = h
takes-no-memory (errors.Message text) failure h = h
takes-no-memory (errors.Link fault) failure h = h
takes-no-memory errors.Unsupported failure h = h
takes-no-memory errors.Memory failure h = h

stops : (settings : LookupSettings) (q : Query) (kept : List Record) (depth : ℕ) (error : NetError) → IsFailure error
    → step_on settings q kept depth (Err error) ≡ Stops error
stops settings q kept depth (errors.Dns (dns.NoRecordsFound answer)) failure = absurd (cc)
stops settings q kept depth (errors.Dns (dns.ResponseCode code)) failure = refl
stops settings q kept depth (errors.Proto error) failure = refl
stops settings q kept depth (errors.Message text) failure = refl
stops settings q kept depth (errors.Link fault) failure = refl
stops settings q kept depth errors.Unsupported failure = refl
stops settings q kept depth errors.Memory failure = refl

passes-on : (now : ℕ) (mid : CacheContent) (q : Query) (error : NetError) (reply : Reply) (new : CacheContent) → IsFailure error
    → Stores now mid q (kept_of q (Err error)) (Err error) reply new → (reply ≡ Err error) × (new ≡ mid)
passes-on now mid q (errors.Dns (dns.NoRecordsFound answer)) reply new failure h = absurd (cc)
passes-on now mid q (errors.Dns (dns.ResponseCode code)) reply new failure h = h
passes-on now mid q (errors.Proto error) reply new failure h = h
passes-on now mid q (errors.Message text) reply new failure h = h
passes-on now mid q (errors.Link fault) reply new failure h = h
passes-on now mid q errors.Unsupported reply new failure h = h
passes-on now mid q errors.Memory reply new failure h = h

not-empty : (asks : List Ask) (last : Ask) → asks ++ last ∷ [] ≡ [] → ⊥
not-empty [] last h = cc
not-empty (ask ∷ asks) last h = cc

module _ (settings : LookupSettings) (now : ℕ) (last : Ask) (error : NetError) (failure : IsFailure error) where
  abbrev Passes : CacheContent → Reply → CacheContent → Type 0
  Passes old reply new = (reply ≡ Err error) × (new ≡ old)

  proceeds-on : (next : Query → List Record → Reply → CacheContent → Type 0) (old : CacheContent) (q : Query) (step : Step)
      (asks : List Ask) (reply : Reply) (new : CacheContent)
      → ((target : Query) (kept : List Record) (inner : Reply) (mid : CacheContent) → next target kept inner mid → Passes old inner mid)
      → Proceeds next now old q step (asks ++ last ∷ []) reply new → Passes old reply new
  proceeds-on next old q (Gives m) asks reply new rest h = absurd (not-empty asks last h.0)
  proceeds-on next old q (Misses answer) asks reply new rest h = absurd (not-empty asks last h.0)
  proceeds-on next old q (Stops other) asks reply new rest h = absurd (not-empty asks last h.0)
  proceeds-on next old q (Follows target kept) asks reply new rest h =
      let inner = rest target kept h.0 h.1 h.2 in
      let outer = passes-on now h.1 q error reply new failure
      (subst (λ (r : Reply). Stores now h.1 q (kept_of q r) r reply new) inner.0 h.3) in
      (outer.0, outer.1 ∙ inner.1)

  -- An error that is not stored is returned, and leaves the cache as it was.
  pub failure-passes : (depth : ℕ) (kept : List Record) (old : CacheContent) (q : Query) (asks : List Ask) (reply : Reply) (new : CacheContent)
      → meaning last.outcome ≡ Err error → Looks settings now depth kept old q (asks ++ last ∷ []) reply new → Passes old reply new
  failure-passes depth kept old q [] reply new is h = elim h.3 [
    | inl memory ↦ absurd (takes-no-memory error failure (subst MayRunOut is memory.1))
    | inr goes ↦
        (let same : step_of settings q kept depth last.outcome ≡ Stops error =
        ap (λ (o : Outcome). step_on settings q kept depth o) is ∙ stops settings q kept depth error failure in
        let stopped = subst (λ (s : Step). Proceeds (λ target aliases inner mid. Looks settings now (suc depth) aliases old target [] inner mid)
        now old q s [] reply new) same goes in
        (stopped.1, stopped.2))
  ]
  failure-passes depth kept old q (ask ∷ asks) reply new is h = elim h.3 [
    | inl memory ↦ absurd (not-empty asks last memory.0)
    | inr goes ↦
        proceeds-on (λ target aliases inner mid. Looks settings now (suc depth) aliases old target (asks ++ last ∷ []) inner mid) old q
        (step_of settings q kept depth ask.outcome) asks reply new
        (λ target aliases inner mid looks. failure-passes (suc depth) aliases old target asks inner mid is looks) goes
  ]
