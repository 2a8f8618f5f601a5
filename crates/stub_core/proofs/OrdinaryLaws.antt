-- A lookup asks no question for a special-use name.
use Rattle.std.proofs.Common.{◌≡◌, ℕ, suc, List, [], ◌∷◌, All, sym, ap, subst, ◌∙◌, inl, inr}
use Rattle.std.proofs.lemmas.List.Elements.{All-cons, All-nil}
use Rattle.dns_records.specs.Record.{Record}
use Rattle.dns_messages.specs.declared.query.Query.{Query}
use Rattle.stub_cache.specs.Cache.{CacheContent}
use Rattle.stub_client.specs.Handle.{Ask}
use Rattle.stub_client.specs.Looks.{Looks, Proceeds, Reply}
use Rattle.stub_client.specs.SpecialNames.{special_answer}
use Rattle.stub_client.specs.Step.{step_of}
use Rattle.stub_client.specs.declared.caching_client.step.LookupSettings.{LookupSettings}
use Rattle.stub_client.specs.declared.caching_client.step.Step.{Step}
use Rattle.stub_client.specs.declared.caching_client.step.Step.TheVariants.{Gives, Misses, Stops, Follows}
use Rattle.stub_client.specs.declared.special_names.SpecialAnswer.TheVariants.{Ordinary}

abbrev IsOrdinary : Ask → Type 0
IsOrdinary ask = special_answer ask.question ≡ Ordinary

none-asked : (asks : List Ask) → asks ≡ [] → All IsOrdinary asks
none-asked asks e = subst (λ (xs : List Ask). All IsOrdinary xs) (sym e) (All-nil IsOrdinary)

proceeds : (next : Query → List Record → Reply → CacheContent → Type 0) (now : ℕ) (old : CacheContent) (q : Query) (step : Step)
    (asks : List Ask) (reply : Reply) (new : CacheContent)
    → ((target : Query) (kept : List Record) (inner : Reply) (mid : CacheContent) → next target kept inner mid → All IsOrdinary asks)
    → Proceeds next now old q step asks reply new → All IsOrdinary asks
proceeds next now old q (Gives m) asks reply new rest h = none-asked asks h.0
proceeds next now old q (Misses answer) asks reply new rest h = none-asked asks h.0
proceeds next now old q (Stops error) asks reply new rest h = none-asked asks h.0
proceeds next now old q (Follows target kept) asks reply new rest h = rest target kept h.0 h.1 h.2

pub ordinary-asks : (settings : LookupSettings) (now depth : ℕ) (kept : List Record) (old : CacheContent) (q : Query) (asks : List Ask)
    (reply : Reply) (new : CacheContent)
    → Looks settings now depth kept old q asks reply new → All IsOrdinary asks
ordinary-asks settings now depth kept old q [] reply new h = All-nil IsOrdinary
ordinary-asks settings now depth kept old q (ask ∷ asks) reply new h =
    All-cons IsOrdinary ask asks (ap special_answer h.0 ∙ h.1) (elim h.3 [
      | inl memory ↦ none-asked asks memory.0
      | inr goes ↦ proceeds (λ target aliases inner mid. Looks settings now (suc depth) aliases old target asks inner mid) now old q
          (step_of settings q kept depth ask.outcome) asks reply new
          (λ target aliases inner mid looks. ordinary-asks settings now (suc depth) aliases old target asks inner mid looks) goes
    ])
