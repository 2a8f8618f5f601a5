-- Bounds of types, and equal configurations.
use Rattle.std.proofs.Common.{◌≡◌, ◌∙◌, ◌≤◌, ◌≢◌, ℕ, true, false, List, [], ◌∷◌, Option, Some, None, refl, ap, sym, subst, arith}
use Rattle.std.specs.Prelude.{nat_eq, cond}
use Rattle.std.specs.BTreeMap.{insert_entry, is_at}
use Rattle.std.specs.Cmp.Lexicographic.{pointwise}
use Rattle.std.specs.Map.{lookup}
use Rattle.std.specs.Option.{option_eq}
use Rattle.std.specs.Ordering.{is_eq, match_ordering, nat_cmp}
use Rattle.std.specs.Option.{unwrap_or}
use Rattle.std.specs.Cmp.{unsigned_tied}
use Rattle.std.specs.declared.cmp.Ordering.{Ordering}
use Rattle.std.specs.declared.cmp.Ordering.TheVariants.{Less, Equal, Greater}
use Rattle.std.proofs.lemmas.Bool.{and_parts, eqb-true, eq-eqb, ne_eqb, ltb-false}
use Rattle.dns_wire.specs.codes.RecordType.{type_number}
use Rattle.dns_wire.specs.declared.codes.record_type.RecordType.{RecordType}
use Rattle.stub_cache.specs.Ttl.{TtlConfigContent, TtlRange, bounds_of, clamp, config_with, is_reversed}
use Rattle.stub_cache.specs.TtlEquality.{same_bounds, same_config, same_entry}
use Rattle.stub_cache.specs.declared.ttl.TtlBounds.{TtlBounds}
use Rattle.stub_cache.specs.internal.TtlEquality.{same_config-equivalence}

-- ---- ranges

pub least_below : (range : TtlRange) (ttl : ℕ) → is_reversed range ≡ false → range.least ≤ clamp range ttl
least_below range ttl e = let order : range.least ≤ range.greatest = ltb-false range.greatest range.least e in omega arith

pub greatest_above : (range : TtlRange) (ttl : ℕ) → clamp range ttl ≤ range.greatest
greatest_above range ttl = omega arith

pub within_unchanged : (range : TtlRange) (ttl : ℕ) → range.least ≤ ttl → ttl ≤ range.greatest → clamp range ttl ≡ ttl
within_unchanged range ttl low high = omega arith

-- ---- equality

ttl_same : (a b : Option ℕ) → option_eq nat_eq a b ≡ true → a ≡ b
ttl_same None None e = refl
ttl_same None (Some y) e = absurd cc
ttl_same (Some x) None e = absurd cc
ttl_same (Some x) (Some y) e = ap Some (eqb-true x y e)

bounds_same : (b c : TtlBounds) → same_bounds b c ≡ true → b ≡ c
bounds_same b c e =
    let first = and_parts _ _ e in
    let second = and_parts _ _ first.1 in
    let third = and_parts _ _ second.1 in
    ap (λ (x : Option ℕ). record b { positive_min = x }) (ttl_same b.positive_min c.positive_min first.0)
    ∙ ap (λ (x : Option ℕ). record b { positive_min = c.positive_min; negative_min = x }) (ttl_same b.negative_min c.negative_min second.0)
    ∙ ap (λ (x : Option ℕ). record c { positive_max = x; negative_max = b.negative_max }) (ttl_same b.positive_max c.positive_max third.0)
    ∙ ap (λ (x : Option ℕ). record c { negative_max = x }) (ttl_same b.negative_max c.negative_max third.1)

entry_same : (p q : ℕ × TtlBounds) → same_entry p q ≡ true → p ≡ q
entry_same p q e =
    let parts = and_parts _ _ e in
    let number : p.0 ≡ q.0 = eqb-true p.0 q.0 parts.0 in
    let bounds : p.1 ≡ q.1 = bounds_same p.1 q.1 parts.1 in
    ap (λ (n : ℕ). (n, p.1)) number ∙ ap (λ (b : TtlBounds). (q.0, b)) bounds

entries_same : (ps qs : List (ℕ × TtlBounds)) → pointwise same_entry ps qs ≡ true → ps ≡ qs
entries_same [] [] e = refl
entries_same [] (q ∷ qs) e = absurd cc
entries_same (p ∷ ps) [] e = absurd cc
entries_same (p ∷ ps) (q ∷ qs) e =
    let parts = and_parts _ _ e in
    ap (λ (x : ℕ × TtlBounds). x ∷ ps) (entry_same p q parts.0) ∙ ap (λ (xs : List (ℕ × TtlBounds)). q ∷ xs) (entries_same ps qs parts.1)

pub config_same : (config other : TtlConfigContent) → same_config config other ≡ true → config ≡ other
config_same config other e =
    let parts = and_parts _ _ e in
    ap (λ (b : TtlBounds). record config { default = b }) (bounds_same config.default other.default parts.0)
    ∙ ap (λ (ps : List (ℕ × TtlBounds)). record other { by_query_type = ps }) (entries_same config.by_query_type other.by_query_type parts.1)

pub same_is_equal : (config other : TtlConfigContent) → config ≡ other → same_config config other ≡ true
same_is_equal config other e = subst (λ (c : TtlConfigContent). same_config config c ≡ true) e (same_config-equivalence.refl config)

-- ---- bounds that are set for a type

abbrev found : {X : Type 0} → ℕ → List (ℕ × X) → Option X
found number es = lookup (is_at (nat_cmp number)) es

is_at_itself : (number : ℕ) → is_eq (nat_cmp number number) ≡ true
is_at_itself number = unsigned_tied number number ∙ eq-eqb number number refl

is_elsewhere : (other number : ℕ) → other ≢ number → is_eq (nat_cmp other number) ≡ false
is_elsewhere other number apart = unsigned_tied other number ∙ ne_eqb other number apart

module _ {X : Type 0} (number : ℕ) (value : X) where
  abbrev inserted_at : Ordering → ℕ × X → List (ℕ × X) → List (ℕ × X)
  inserted_at o e es = match_ordering o ((number, value) ∷ e ∷ es) ((e.0, value) ∷ es) (e ∷ insert_entry nat_cmp es number value)

  own_at : (o : Ordering) (e : ℕ × X) (es : List (ℕ × X)) → nat_cmp number e.0 ≡ o
      → found number (insert_entry nat_cmp es number value) ≡ Some value → found number (inserted_at o e es) ≡ Some value
  own_at Less e es is later = ap (λ b. cond b (Some value) (found number (e ∷ es))) (is_at_itself number)
  own_at Equal e es is later = ap (λ o. cond (is_eq o) (Some value) (found number es)) is
  own_at Greater e es is later =
      ap (λ o. cond (is_eq o) (Some e.1) (found number (insert_entry nat_cmp es number value))) is ∙ later

  found_own : (es : List (ℕ × X)) → found number (insert_entry nat_cmp es number value) ≡ Some value
  found_own [] = ap (λ b. cond b (Some value) None) (is_at_itself number)
  found_own (e ∷ es) = own_at (nat_cmp number e.0) e es refl (found_own es)

  module _ (other : ℕ) (apart : other ≢ number) where
    other_at : (o : Ordering) (e : ℕ × X) (es : List (ℕ × X)) → nat_cmp number e.0 ≡ o
        → found other (insert_entry nat_cmp es number value) ≡ found other es → found other (inserted_at o e es) ≡ found other (e ∷ es)
    other_at Less e es is later = ap (λ b. cond b (Some value) (found other (e ∷ es))) (is_elsewhere other number apart)
    other_at Equal e es is later =
        let same : number ≡ e.0 = eqb-true number e.0 (sym (unsigned_tied number e.0) ∙ ap is_eq is) in
        let elsewhere : is_eq (nat_cmp other e.0) ≡ false = is_elsewhere other e.0 (λ there. apart (there ∙ sym same)) in
        ap (λ b. cond b (Some value) (found other es)) elsewhere ∙ ap (λ b. cond b (Some e.1) (found other es)) (sym elsewhere)
    other_at Greater e es is later = ap (λ rest. cond (is_eq (nat_cmp other e.0)) (Some e.1) rest) later

    found_other : (es : List (ℕ × X)) → found other (insert_entry nat_cmp es number value) ≡ found other es
    found_other [] = ap (λ b. cond b (Some value) None) (is_elsewhere other number apart)
    found_other (e ∷ es) = other_at (nat_cmp number e.0) e es refl (found_other es)

pub bounds_of_own : (config : TtlConfigContent) (kind : RecordType) (bounds : TtlBounds)
    → bounds_of (config_with config kind bounds) kind ≡ bounds
bounds_of_own config kind bounds =
    ap (λ (b : Option TtlBounds). unwrap_or b config.default) (found_own (type_number kind) bounds config.by_query_type)

pub bounds_of_other : (config : TtlConfigContent) (kind other : RecordType) (bounds : TtlBounds) → type_number other ≢ type_number kind
    → bounds_of (config_with config kind bounds) other ≡ bounds_of config other
bounds_of_other config kind other bounds apart =
    ap (λ (b : Option TtlBounds). unwrap_or b config.default) (found_other (type_number kind) bounds (type_number other) apart config.by_query_type)
