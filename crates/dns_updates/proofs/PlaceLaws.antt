-- The order of sets: it tells keys apart, and puts the start of authority of an origin first.
use Rattle.std.proofs.Common.{◌≡◌, ℕ, Bool, true, false, List, refl, sym, ap, ◌∙◌, arith, Ordering}
use Rattle.std.proofs.lemmas.Bool.Decides.{nat_tests}
use Rattle.std.proofs.lemmas.Map.Lookups.{CmpEqualImpliesEq, exact_pairs, exact_bytes, exact_unsigned}
use Rattle.std.specs.Cmp.{IsTotalOrder, Equal-is, eq_by_cmp_equiv, then_total, on_total, nat_cmp_total}
use Rattle.std.specs.Cmp.Lexicographic.{slice_cmp, nat_list_cmp_total}
use Rattle.std.specs.Ordering.{eq_by_cmp, nat_cmp}
use Rattle.dns_wire.specs.codes.RecordType.{type_number}
use Rattle.dns_wire.specs.declared.codes.record_type.RecordType.{RecordType}
use Rattle.dns_records.specs.Rows.{Key, key, key_cmp}
use Rattle.dns_updates.specs.Keys.{owner_code, number_code, type_code, Place, place_cmp}
use Rattle.dns_updates.proofs.OwnerCodeLaws.{owner_apart, owner_of_lower}
use Rattle.dns_updates.proofs.UpdateLaws.Maps.{key_total, key_antisymmetric}

pub place_total : IsTotalOrder place_cmp
place_total = then_total (on_total (λ (p : Place). p.0) nat_list_cmp_total) (on_total (λ (p : Place). p.1) nat_cmp_total)

pub place_exact : CmpEqualImpliesEq place_cmp
place_exact = exact_pairs (slice_cmp nat_cmp) nat_cmp exact_bytes exact_unsigned

-- the place of a set with these labels and this type
abbrev pub place : List (List ℕ) → RecordType → Place
place labels t = (owner_code labels, type_code t)

number_apart : (m n : ℕ) → number_code m ≡ number_code n → m ≡ n
number_apart m n e = grind (arith, nat_tests)

pub keys_of_place : (a b : List (List ℕ)) (t u : RecordType) → place a t ≡ place b u → key a t ≡ key b u
keys_of_place a b t u e =
    let owner = owner_apart a b (ap (λ (p : Place). p.0) e) in
    let number = number_apart (type_number t) (type_number u) (ap (λ (p : Place). p.1) e) in
    λ i. (owner i, number i)

places_of_key : (a b : List (List ℕ)) (t u : RecordType) → key a t ≡ key b u → place a t ≡ place b u
places_of_key a b t u e =
    let owner = owner_of_lower a b (ap (λ (k : Key). k.0) e) in
    λ i. (owner i, number_code (e i).1)

ties : {A : Type 0} {R : A → A → Ordering} → IsTotalOrder R → (x y : A) → x ≡ y → eq_by_cmp R x y ≡ true
ties {R = R} o x y e = ap (eq_by_cmp R x) (sym e) ∙ (eq_by_cmp_equiv o).refl x

pub tied_both : (x y : Bool) → (x ≡ true → y ≡ true) → (y ≡ true → x ≡ true) → x ≡ y
tied_both true y f g = sym (f refl)
tied_both false true f g = g refl
tied_both false false f g = refl

-- places tie exactly where keys do
pub places_tie : (a b : List (List ℕ)) (t u : RecordType) → eq_by_cmp place_cmp (place a t) (place b u) ≡ eq_by_cmp key_cmp (key a t) (key b u)
places_tie a b t u =
    tied_both (eq_by_cmp place_cmp (place a t) (place b u)) (eq_by_cmp key_cmp (key a t) (key b u))
    (λ e. ties key_total (key a t) (key b u) (keys_of_place a b t u (place_exact (place a t) (place b u) ((Equal-is (place_cmp (place a t) (place b u))).0 e))))
    (λ e. ties place_total (place a t) (place b u) (places_of_key a b t u (key_antisymmetric (key a t) (key b u) ((Equal-is (key_cmp (key a t) (key b u))).0 e))))
