-- Equality of configurations is an equivalence.
use Rattle.std.specs.Prelude.{ℕ, nat_eq}
use Rattle.std.specs.Cmp.{IsEquivalence, and_equiv, on_equiv}
use Rattle.std.specs.Cmp.Lexicographic.{lists_equiv, options_equiv}
use Rattle.std.specs.Option.{option_eq}
use Rattle.std.proofs.lemmas.Cmp.{nat_eq_equiv}
use Rattle.stub_cache.specs.Ttl.{TtlConfigContent}
use Rattle.stub_cache.specs.TtlEquality.{same_bounds, same_entry, same_config}
use Rattle.stub_cache.specs.declared.ttl.TtlBounds.{TtlBounds}

same_ttl-equivalence : IsEquivalence (option_eq nat_eq)
same_ttl-equivalence = options_equiv nat_eq_equiv

pub same_bounds-equivalence : IsEquivalence same_bounds
same_bounds-equivalence =
    and_equiv (on_equiv (λ (b : TtlBounds). b.positive_min) same_ttl-equivalence)
    (and_equiv (on_equiv (λ (b : TtlBounds). b.negative_min) same_ttl-equivalence)
    (and_equiv (on_equiv (λ (b : TtlBounds). b.positive_max) same_ttl-equivalence)
    (on_equiv (λ (b : TtlBounds). b.negative_max) same_ttl-equivalence)))

same_entry-equivalence : IsEquivalence same_entry
same_entry-equivalence =
    and_equiv (on_equiv (λ (p : ℕ × TtlBounds). p.0) nat_eq_equiv)
    (on_equiv (λ (p : ℕ × TtlBounds). p.1) same_bounds-equivalence)

pub same_config-equivalence : IsEquivalence same_config
same_config-equivalence =
    and_equiv (on_equiv (λ (c : TtlConfigContent). c.default) same_bounds-equivalence)
    (on_equiv (λ (c : TtlConfigContent). c.by_query_type) (lists_equiv same_entry-equivalence))
