-- How many questions a lookup asks.
use Rattle.std.proofs.Common.{◌≡◌, ℕ, suc, ◌+◌, ◌-◌, ◌<◌, ◌≤◌, List, [], ◌∷◌, length, ap, inl, inr, arith}
use Rattle.dns_records.specs.Record.{Record}
use Rattle.dns_messages.specs.declared.query.Query.{Query}
use Rattle.stub_cache.specs.Cache.{CacheContent}
use Rattle.stub_client.specs.Handle.{Ask, Outcome}
use Rattle.stub_client.specs.Looks.{Looks, Proceeds, Reply}
use Rattle.stub_client.specs.Step.{max_depth, meaning, step_of}
use Rattle.stub_client.specs.declared.caching_client.step.LookupSettings.{LookupSettings}
use Rattle.stub_client.specs.declared.caching_client.step.Step.{Step}
use Rattle.stub_client.specs.declared.caching_client.step.Step.TheVariants.{Gives, Misses, Stops, Follows}
use Rattle.stub_client.proofs.StepCases.{outcome-cases, reply-cases}

-- an alias is followed below the greatest depth alone
abbrev IsAbove : ℕ → Step → Type 0
IsAbove depth (Gives m) = Unit {0}
IsAbove depth (Misses answer) = Unit {0}
IsAbove depth (Stops error) = Unit {0}
IsAbove depth (Follows target kept) = depth < max_depth

is-above : (settings : LookupSettings) (q : Query) (kept : List Record) (depth : ℕ) (outcome : Outcome)
    → IsAbove depth (step_of settings q kept depth outcome)
is-above settings q kept depth outcome =
    outcome-cases settings q kept depth (IsAbove depth) (meaning outcome)
    (λ response is. reply-cases settings q kept depth (IsAbove depth) response.message (λ given. tt) (λ not-given ends. tt) (λ not-given no-end alias above. above) tt)
    (λ answer. tt) (λ error failure is. tt)

none : (asks : List Ask) → asks ≡ [] → length asks ≡ 0
none asks h = ap length h

proceeds : (next : Query → List Record → Reply → CacheContent → Type 0) (now depth : ℕ) (old : CacheContent) (q : Query) (step : Step)
    (asks : List Ask) (reply : Reply) (new : CacheContent)
    → ((target : Query) (kept : List Record) (inner : Reply) (mid : CacheContent) → depth < max_depth → next target kept inner mid
    → length asks + suc depth ≤ 8)
    → depth ≤ 7 → IsAbove depth step → Proceeds next now old q step asks reply new → length asks + depth ≤ 7
proceeds next now depth old q (Gives m) asks reply new rest least above h = (let zero' : length asks ≡ 0 = none asks h.0 in omega arith)
proceeds next now depth old q (Misses answer) asks reply new rest least above h = (let zero' : length asks ≡ 0 = none asks h.0 in omega arith)
proceeds next now depth old q (Stops error) asks reply new rest least above h = (let zero' : length asks ≡ 0 = none asks h.0 in omega arith)
proceeds next now depth old q (Follows target kept) asks reply new rest least above h =
    (let few : length asks + suc depth ≤ 8 = rest target kept h.0 h.1 above h.2 in omega arith)

asks-and-depth : (settings : LookupSettings) (now depth : ℕ) (kept : List Record) (old : CacheContent) (q : Query) (asks : List Ask)
    (reply : Reply) (new : CacheContent)
    → depth ≤ 7 → Looks settings now depth kept old q asks reply new → length asks + depth ≤ 8
asks-and-depth settings now depth kept old q [] reply new least h = omega arith
asks-and-depth settings now depth kept old q (ask ∷ asks) reply new least h =
    let rest : length asks + depth ≤ 7 = elim h.3 [
      | inl memory ↦ (let zero' : length asks ≡ 0 = none asks memory.0 in omega arith)
      | inr goes ↦ proceeds (λ target aliases inner mid. Looks settings now (suc depth) aliases old target asks inner mid) now depth old q
          (step_of settings q kept depth ask.outcome) asks reply new
          (λ target aliases inner mid above looks.
          asks-and-depth settings now (suc depth) aliases old target asks inner mid (let less : depth < 7 = above in omega arith) looks)
          least (is-above settings q kept depth ask.outcome) goes
    ] in
    let count : length (ask ∷ asks) ≡ suc (length asks) = omega arith in
    omega arith

-- A lookup asks at most eight questions, less its depth.
pub few-asks : (settings : LookupSettings) (now depth : ℕ) (kept : List Record) (old : CacheContent) (q : Query) (asks : List Ask)
    (reply : Reply) (new : CacheContent)
    → Looks settings now depth kept old q asks reply new → depth ≤ 7 → length asks ≤ 8 - depth
few-asks settings now depth kept old q asks reply new looks least =
    let few : length asks + depth ≤ 8 = asks-and-depth settings now depth kept old q asks reply new least looks in
    omega arith
