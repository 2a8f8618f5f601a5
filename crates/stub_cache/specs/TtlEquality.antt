-- Equality of bounds of TTLs, and of configurations.
use Rattle.std.specs.Prelude.{ℕ, Bool, nat_eq}
use Rattle.std.specs.Cmp.Lexicographic.{pointwise}
use Rattle.std.specs.Option.{option_eq}
use Rattle.std.specs.Ordering.{on, eq_of_both}
use Rattle.stub_cache.specs.Ttl.{TtlConfigContent}
use Rattle.stub_cache.specs.declared.ttl.TtlBounds.{TtlBounds}

-- Bounds are equal if each minimum and each maximum is: one that is not set equals no other.
abbrev pub same_bounds : TtlBounds → TtlBounds → Bool
same_bounds =
    eq_of_both (on (λ b. b.positive_min) (option_eq nat_eq))
    (eq_of_both (on (λ b. b.negative_min) (option_eq nat_eq))
    (eq_of_both (on (λ b. b.positive_max) (option_eq nat_eq)) (on (λ b. b.negative_max) (option_eq nat_eq))))

-- the same bounds for a type of the same number
abbrev pub same_entry : ℕ × TtlBounds → ℕ × TtlBounds → Bool
same_entry = eq_of_both (on (λ p. p.0) nat_eq) (on (λ p. p.1) same_bounds)

-- Configurations are equal if the default bounds are, and those that were set for types.
abbrev pub same_config : TtlConfigContent → TtlConfigContent → Bool
same_config = eq_of_both (on (λ c. c.default) same_bounds) (on (λ c. c.by_query_type) (pointwise same_entry))
