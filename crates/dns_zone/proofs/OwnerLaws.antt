-- The sets of an owner are those between its first key and its end.
use Rattle.std.proofs.Common.{◌≡◌, ◌∙◌, ℕ, Bool, true, false, cond, not, ◌&&◌, ◌||◌, List, [], ◌∷◌, ◌++◌, map, refl, sym, ap, arith, Ordering, Less, Equal, Greater}
use Rattle.std.proofs.lemmas.List.{append-nil}
use Rattle.std.specs.Cmp.{tied_itself, nat_cmp_total, ranked}
use Rattle.std.specs.Cmp.Lexicographic.{slice_cmp, nat_list_cmp_total}
use Rattle.std.specs.List.{list_any, filter}
use Rattle.std.specs.Map.{values_of}
use Rattle.std.specs.BTreeMap.Range.{range_contains}
use Rattle.std.specs.Ordering.{is_gt, is_le, nat_cmp, ordering_then, ordering_reverse}
use Rattle.std.specs.declared.ops.Bound.TheVariants.{Included, Excluded}
use Rattle.dns_wire.specs.declared.codes.record_type.RecordType.{RecordType}
use Rattle.dns_names.specs.Compare.{same_labels}
use Rattle.dns_names.specs.internal.Compare.{same-lower, same_labels-equivalence}
use Rattle.dns_records.specs.RecordSet.{RecordSetValue}
use Rattle.dns_updates.specs.Keys.{owner_code, Place}
use Rattle.dns_zone.specs.Sets.{HaveTheirKeys}
use Rattle.dns_updates.proofs.OwnerCodeLaws.{owner_apart, owner_of_lower}
use Rattle.dns_updates.proofs.PlaceLaws.{tied_both}
use Rattle.dns_zone.proofs.RowLaws.{same_lower}
use Rattle.dns_zone.proofs.SetLaws.{Stored, Entries, stored_cmp, between, from_start, front_first, then_equal}

-- ---- the order of bytes

same_front : (p a b : List ℕ) → slice_cmp nat_cmp (p ++ a) (p ++ b) ≡ slice_cmp nat_cmp a b
same_front [] a b = refl
same_front (c ∷ p) a b = then_equal (nat_cmp c c) (slice_cmp nat_cmp (p ++ a) (p ++ b)) (tied_itself nat_cmp_total c) ∙ same_front p a b

is_greater : (r : Ordering) → is_gt r ≡ true → r ≡ Greater
is_greater Less e = absurd (cc)
is_greater Equal e = absurd (cc)
is_greater Greater e = refl

none_below_zero : (z : List ℕ) → is_gt (slice_cmp nat_cmp (0 ∷ []) z) ≡ true → z ≡ []
none_below_zero [] e = refl
none_below_zero (y ∷ ys) e = by (nat_cmp 0 y) ys refl e
  where
    by : (r : Ordering) (ys : List ℕ) → nat_cmp 0 y ≡ r → is_gt (ordering_then r (slice_cmp nat_cmp [] ys)) ≡ true → y ∷ ys ≡ []
    by Less ys t h = absurd (cc)
    by Equal [] t h = absurd (cc)
    by Equal (x ∷ xs) t h = absurd (cc)
    by Greater ys t h = absurd (omega (arith, ranked 0 y Greater (sym t)))

-- bytes from those of an owner on, and before their end, are those of the owner
only_owner : (p c : List ℕ) → is_gt (slice_cmp nat_cmp p c) ≡ false → is_gt (slice_cmp nat_cmp (p ++ 0 ∷ []) c) ≡ true → c ≡ p
only_owner p c from before =
    let up_to : is_gt (slice_cmp nat_cmp c (p ++ 0 ∷ [])) ≡ false =
    ap is_gt (nat_list_cmp_total.antisymm c (p ++ 0 ∷ []) ∙ ap ordering_reverse (is_greater (slice_cmp nat_cmp (p ++ 0 ∷ []) c) before)) in
    let mid = between p c (0 ∷ []) from up_to in
    let ends : mid.0 ≡ [] = none_below_zero mid.0 (ap is_gt (sym (same_front p (0 ∷ []) mid.0) ∙ ap (slice_cmp nat_cmp (p ++ 0 ∷ [])) (sym mid.1)) ∙ before) in
    mid.1 ∙ ap (λ (l : List ℕ). p ++ l) ends ∙ append-nil p

from_itself : (p : List ℕ) → is_gt (slice_cmp nat_cmp p p) ≡ false
from_itself p = ap (λ (l : List ℕ). is_gt (slice_cmp nat_cmp p l)) (sym (append-nil p)) ∙ front_first p []

before_end : (p : List ℕ) → is_gt (slice_cmp nat_cmp (p ++ 0 ∷ []) p) ≡ true
before_end p = ap (λ (l : List ℕ). is_gt (slice_cmp nat_cmp (p ++ 0 ∷ []) l)) (sym (append-nil p)) ∙ ap is_gt (same_front p (0 ∷ []) [])

-- ---- owners

same_of_code : (a b : List (List ℕ)) → owner_code b ≡ owner_code a → same_labels a b ≡ true
same_of_code a b e =
    sym (same_lower a b) ∙ ap (same_labels a) (owner_apart b a e) ∙ same_lower a a ∙ same_labels-equivalence.refl a

code_of_same : (a b : List (List ℕ)) → same_labels a b ≡ true → owner_code b ≡ owner_code a
code_of_same a b e = sym (owner_of_lower a b (same-lower a b e))

-- ---- the range of an owner

and_is : (a b : Bool) → (a && b) ≡ true → (a ≡ true) × (b ≡ true)
and_is true b e = (refl, e)
and_is false b e = absurd (cc)

not_is : (b : Bool) → not b ≡ true → b ≡ false
not_is true e = absurd (cc)
not_is false e = refl

twice_not : (b : Bool) → not (not b) ≡ b
twice_not true = refl
twice_not false = refl

abbrev is_of : Stored → Stored → Stored × RecordSetValue → Bool
is_of start end e = range_contains stored_cmp (Included start) (Excluded end) e.0

abbrev same : List (List ℕ) → RecordSetValue → Bool
same name s = same_labels name s.name.labels

module _ (name : List (List ℕ)) (start end : Stored) (first : start.0 ≡ owner_code name) (least : start.1 ≡ 0) (last : end.0 ≡ owner_code name ++ 0 ∷ []) (none : end.1 ≡ 0) where
  from_is : (k : Stored) → is_le (stored_cmp start k) ≡ not (is_gt (slice_cmp nat_cmp (owner_code name) k.0))
  from_is k = (λ i. is_le (ordering_then (slice_cmp nat_cmp (first i) k.0) (nat_cmp (least i) k.1))) ∙ from_start (slice_cmp nat_cmp (owner_code name) k.0) k.1

  to_is : (k : Stored) → not (is_le (stored_cmp end k)) ≡ is_gt (slice_cmp nat_cmp (owner_code name ++ 0 ∷ []) k.0)
  to_is k =
      ap not ((λ i. is_le (ordering_then (slice_cmp nat_cmp (last i) k.0) (nat_cmp (none i) k.1))) ∙ from_start (slice_cmp nat_cmp (owner_code name ++ 0 ∷ []) k.0) k.1)
      ∙ twice_not (is_gt (slice_cmp nat_cmp (owner_code name ++ 0 ∷ []) k.0))

  one_of : (k : Stored) (s : RecordSetValue) → k.0 ≡ owner_code s.name.labels → is_of start end (k, s) ≡ same name s
  one_of k s e =
      (λ i. from_is k i && to_is k i)
      ∙ tied_both _ (same name s)
      (λ h.
      let both = and_is _ _ h in
      same_of_code name s.name.labels (sym e ∙ only_owner (owner_code name) k.0 (not_is _ both.0) both.1))
      (λ h.
      let code : owner_code name ≡ k.0 = sym (e ∙ code_of_same name s.name.labels h) in
      ap (λ (c : List ℕ). not (is_gt (slice_cmp nat_cmp (owner_code name) c)) && is_gt (slice_cmp nat_cmp (owner_code name ++ 0 ∷ []) c)) (sym code)
      ∙ (λ i. not (from_itself (owner_code name) i) && before_end (owner_code name) i))

  -- the range has the sets of the owner
  pub of_owner : (es : Entries) → HaveTheirKeys es → values_of (filter (is_of start end) es) ≡ filter (same name) (values_of es)
  of_owner [] all = refl
  of_owner (x ∷ es) all = by (is_of start end x) (same name x.1) (one_of x.0 x.1 (ap (λ (p : Place). p.0) all.0)) (of_owner es all.1)
    where
      by : (a b : Bool) → a ≡ b → values_of (filter (is_of start end) es) ≡ filter (same name) (values_of es)
          → values_of (cond a (x ∷ filter (is_of start end) es) (filter (is_of start end) es)) ≡ cond b (x.1 ∷ filter (same name) (values_of es)) (filter (same name) (values_of es))
      by true true e more = ap (λ (l : List RecordSetValue). x.1 ∷ l) more
      by true false e more = absurd (cc)
      by false true e more = absurd (cc)
      by false false e more = more

  -- the range runs forward
  pub forward : is_gt (stored_cmp start end) ≡ false
  forward = (λ i. is_gt (ordering_then (slice_cmp nat_cmp (first i) (last i)) (nat_cmp (least i) (none i)))) ∙ at (slice_cmp nat_cmp (owner_code name) (owner_code name ++ 0 ∷ [])) (front_first (owner_code name) (0 ∷ []))
    where
      at : (r : Ordering) → is_gt r ≡ false → is_gt (ordering_then r (nat_cmp 0 0)) ≡ false
      at Less e = refl
      at Equal e = refl
      at Greater e = absurd (cc)

-- ---- whether there is one

pub any_of_filter : (p : RecordSetValue → Bool) (sets : List RecordSetValue) (x : RecordSetValue) (more : List RecordSetValue) → filter p sets ≡ x ∷ more → true ≡ list_any p sets
any_of_filter p [] x more e = absurd (cc)
any_of_filter p (s ∷ ss) x more e = by (p s) e (any_of_filter p ss x more)
  where
    by : (b : Bool) → cond b (s ∷ filter p ss) (filter p ss) ≡ x ∷ more → (filter p ss ≡ x ∷ more → true ≡ list_any p ss) → true ≡ (b || list_any p ss)
    by true f rest = refl
    by false f rest = rest f

pub none_of_filter : (p : RecordSetValue → Bool) (sets : List RecordSetValue) → filter p sets ≡ [] → false ≡ list_any p sets
none_of_filter p [] e = refl
none_of_filter p (s ∷ ss) e = by (p s) e (none_of_filter p ss)
  where
    by : (b : Bool) → cond b (s ∷ filter p ss) (filter p ss) ≡ [] → (filter p ss ≡ [] → false ≡ list_any p ss) → false ≡ (b || list_any p ss)
    by true f rest = absurd (cc)
    by false f rest = rest f

-- ---- their types

abbrev type_of_entry : Stored × RecordSetValue → RecordType
type_of_entry e = e.1.record_type

types_of_values : (es : Entries) → map type_of_entry es ≡ map (λ (s : RecordSetValue). s.record_type) (values_of es)
types_of_values [] = refl
types_of_values (x ∷ es) = ap (λ (l : List RecordType). x.1.record_type ∷ l) (types_of_values es)

-- the types of the sets that are left, where none are left
pub types_listed : (found : List RecordType) (left all : Entries) → left ≡ [] → found ++ map type_of_entry left ≡ map type_of_entry all → found ≡ map (λ (s : RecordSetValue). s.record_type) (values_of all)
types_listed found left all none e =
    sym (append-nil found) ∙ ap (λ (l : Entries). found ++ map type_of_entry l) (sym none) ∙ e ∙ types_of_values all
