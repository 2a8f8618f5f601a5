-- The sets of a name are sought from its first key on, up to those of another name.
use Rattle.std.proofs.Common.{◌≡◌, ◌==◌, ◌∙◌, ℕ, Bool, true, false, cond, not, ◌||◌, List, [], ◌∷◌, ◌++◌, length, drop, refl, sym, ap, subst, arith, Option, Some, None, Ordering, Less, Equal, Greater}
use Rattle.std.proofs.lemmas.Bool.Decides.{nat_tests, Decides-eqb}
use Rattle.std.proofs.lemmas.List.{append-nil}
use Rattle.std.proofs.lemmas.Map.Lookups.{exact_bytes}
use Rattle.std.proofs.lemmas.Slice.Eq.{starts_is}
use Rattle.std.specs.BTreeMap.{is_at}
use Rattle.std.specs.BTreeMap.Range.{range_contains}
use Rattle.std.specs.Cmp.{Equal-is, tied_itself, ranked, nat_cmp_total}
use Rattle.std.specs.Cmp.Lexicographic.{slice_cmp, nat_list_cmp_total, bytes_decides}
use Rattle.std.specs.Str.{bytes_eq}
use Rattle.std.specs.List.{filter, list_any, AllByRecursion}
use Rattle.std.specs.List.Sorted.{IsStrictlySortedBy}
use Rattle.std.specs.Map.{keys_of, values_of}
use Rattle.std.specs.Option.{option_or}
use Rattle.std.specs.Ordering.{is_eq, is_gt, is_le, nat_cmp, ordering_then}
use Rattle.std.specs.declared.ops.Bound.TheVariants.{Included, Unbounded}
use Rattle.dns_wire.specs.declared.codes.record_type.RecordType.{RecordType}
use Rattle.dns_names.specs.Compare.{at_or_below}
use Rattle.dns_records.specs.RecordSet.{RecordSetValue}
use Rattle.dns_updates.specs.Keys.{Place, bytes_cmp, owner_code, place_cmp, type_code}
use Rattle.dns_updates.proofs.OwnerCodeLaws.{begins_below, below_begins}
use Rattle.dns_updates.proofs.PlaceLaws.{tied_both}
use Rattle.dns_zone.specs.Rows.{key, rows_at, rows_of_sets}
use Rattle.dns_zone.specs.Sets.{set_at, HaveTheirKeys}
use Rattle.dns_zone.specs.internal.Node.{at_place, begins_with, is_first_below, set_rows, sought}
use Rattle.dns_zone.proofs.RowLaws.{no_rows_at, rows_found_at}
use Rattle.dns_zone.proofs.SetLaws.{Entries, Stored, IsFirst, first_below, found_at, from_start, not_true, and_true, stored_cmp, then_equal}

abbrev Entry : Type 0
Entry = Stored × RecordSetValue

-- ---- sets of the owner

numbers_tie : (n m : ℕ) → is_eq (nat_cmp n m) ≡ (n == m)
numbers_tie n m =
    tied_both (is_eq (nat_cmp n m)) (n == m)
    (λ e. let same : n ≡ m = ranked n m Equal (sym ((Equal-is (nat_cmp n m)).0 e)) in grind (arith, nat_tests))
    (λ e. let same : n ≡ m = grind (arith, nat_tests) in (Equal-is (nat_cmp n m)).1 (ap (nat_cmp n) (sym same) ∙ tied_itself nat_cmp_total n))

own_number : (o : List ℕ) (n : ℕ) (x : Entry) → x.0.0 ≡ o → is_at (place_cmp (o, n)) x.0 ≡ (n == x.0.1)
own_number o n x e =
    ap is_eq (then_equal (slice_cmp nat_cmp o x.0.0) (nat_cmp n x.0.1) (ap (slice_cmp nat_cmp o) e ∙ tied_itself nat_list_cmp_total o))
    ∙ numbers_tie n x.0.1

taken : (b : Bool) (s : RecordSetValue) (o p : Option RecordSetValue) → option_or o (cond b (Some s) p) ≡ option_or (option_or o (cond b (Some s) None)) p
taken true s None p = refl
taken true s (Some t) p = refl
taken false s None p = refl
taken false s (Some t) p = refl

-- one more set of the owner was sought
pub one_sought : (o : List ℕ) (n : ℕ) (x : Entry) (left : Entries) (v w : Option RecordSetValue) → x.0.0 ≡ o → w ≡ sought v n x.0.1 x.1
    → option_or w (at_place (o, n) left) ≡ option_or v (at_place (o, n) (x ∷ left))
one_sought o n x left v w e is =
    ap (λ found. option_or found (at_place (o, n) left)) is
    ∙ sym (taken (n == x.0.1) x.1 v (at_place (o, n) left))
    ∙ ap (λ b. option_or v (cond b (Some x.1) (at_place (o, n) left))) (sym (own_number o n x e))

-- ---- sets of other owners

not_false : (b : Bool) → not b ≡ false → b ≡ true
not_false true e = refl
not_false false e = absurd (cc)

pub owners_same : (p o : List ℕ) (b : Bool) → b ≡ not (bytes_eq p o) → b ≡ false → p ≡ o
owners_same p o b is e = (bytes_decides p o).0 (not_false (bytes_eq p o) (sym is ∙ e))

pub owners_differ : (p o : List ℕ) (b : Bool) → b ≡ not (bytes_eq p o) → b ≡ true → p ≡ o → ⊥
owners_differ p o b is e same =
    let never : false ≡ true = sym (not_true (bytes_eq p o) (sym is ∙ e)) ∙ (bytes_decides p o).1 same in
    absurd (cc)

is_less : (r : Ordering) → is_gt r ≡ false → (r ≡ Equal → ⊥) → r ≡ Less
is_less Less g e = refl
is_less Equal g e = absurd (e refl)
is_less Greater g e = absurd (cc)

untied : (r s : Ordering) → r ≡ Less → is_eq (ordering_then r s) ≡ false
untied Less s e = refl
untied Equal s e = absurd (cc)
untied Greater s e = absurd (cc)

-- an entry after one of a greater owner has a greater owner
after_greater : (o p q : List ℕ) (m n : ℕ) → slice_cmp nat_cmp o p ≡ Less → ordering_then (slice_cmp nat_cmp p q) (nat_cmp m n) ≡ Less → slice_cmp nat_cmp o q ≡ Less
after_greater o p q m n less after = by (slice_cmp nat_cmp p q) refl
  where
    by : (r : Ordering) → slice_cmp nat_cmp p q ≡ r → slice_cmp nat_cmp o q ≡ Less
    by Less e = nat_list_cmp_total.trans o p q less e
    by Equal e = ap (slice_cmp nat_cmp o) (sym (exact_bytes p q e)) ∙ less
    by Greater e =
        let never : Greater ≡ Less = sym (ap (λ r. ordering_then r (nat_cmp m n)) e) ∙ after in
        absurd (cc)

none_greater : (o : List ℕ) (n : ℕ) (x : Entry) (left : Entries) → slice_cmp nat_cmp o x.0.0 ≡ Less → AllByRecursion (λ k. place_cmp x.0 k ≡ Less) (keys_of left)
    → at_place (o, n) left ≡ None
none_greater o n x [] less after = refl
none_greater o n x (y ∷ left) less after =
    ap (λ b. cond b (Some y.1) (at_place (o, n) left))
    (untied (slice_cmp nat_cmp o y.0.0) (nat_cmp n y.0.1) (after_greater o x.0.0 y.0.0 x.0.1 y.0.1 less after.0))
    ∙ none_greater o n x left less after.1

-- from another owner on, there is no set of the owner
pub none_left : (o : List ℕ) (n : ℕ) (x : Entry) (left : Entries) → is_gt (bytes_cmp o x.0.0) ≡ false → (x.0.0 ≡ o → ⊥) → IsStrictlySortedBy place_cmp (keys_of (x ∷ left))
    → at_place (o, n) (x ∷ left) ≡ None
unfolding IsStrictlySortedBy
none_left o n x left from other sorted =
    let less : slice_cmp nat_cmp o x.0.0 ≡ Less =
    is_less (slice_cmp nat_cmp o x.0.0) from (λ e. other (sym (exact_bytes o x.0.0 e))) in
    ap (λ b. cond b (Some x.1) (at_place (o, n) left)) (untied (slice_cmp nat_cmp o x.0.0) (nat_cmp n x.0.1) less)
    ∙ none_greater o n x left less sorted.0

pub sorted_left : (x : Entry) (left : Entries) → IsStrictlySortedBy place_cmp (keys_of (x ∷ left)) → IsStrictlySortedBy place_cmp (keys_of left)
unfolding IsStrictlySortedBy
sorted_left x left sorted = sorted.1

or_none : (o : Option RecordSetValue) → option_or o None ≡ o
or_none None = refl
or_none (Some s) = refl

-- what was found is what there is, once none of the sets that are left is the owner's
pub found_whole : (place : Place) (left all : Entries) (v : Option RecordSetValue) → option_or v (at_place place left) ≡ at_place place all → at_place place left ≡ None → v ≡ at_place place all
found_whole place left all v is none = sym (ap (option_or v) none ∙ or_none v) ∙ is

-- ---- whether a set is at or below the owner

pub begins_with_itself : (o p : List ℕ) → p ≡ o → begins_with o p ≡ true
begins_with_itself o p e = (starts_is {E = λ (c d : ℕ). c == d} Decides-eqb p o (begins_with o p) refl).1 [] (e ∙ sym (append-nil o))

-- whether there is one, where the first set of the owner or the first of another tells
pub exists_or : (b starts any : Bool) → (b ≡ true → any ≡ true) → (b ≡ false → starts ≡ any) → (b || starts) ≡ any
exists_or true starts any f g = sym (f refl)
exists_or false starts any f g = g refl

pub exists_by : (b any : Bool) → (b ≡ true → any ≡ true) → (b ≡ false → any ≡ true) → any ≡ true
exists_by true any f g = f refl
exists_by false any f g = g refl

pub exists_as : (b any : Bool) → (b ≡ true → any ≡ true) → (b ≡ false → any ≡ false) → b ≡ any
exists_as true any f g = sym (f refl)
exists_as false any f g = sym (g refl)

-- ---- the sets from a name on

-- whether an entry comes from a key on
abbrev pub is_from : Stored → Entry → Bool
is_from start e = range_contains stored_cmp (Included start) Unbounded e.0

from_is : (start : Stored) (x : Entry) → start.1 ≡ 0 → is_from start x ≡ not (is_gt (slice_cmp nat_cmp start.0 x.0.0))
from_is start x zero =
    and_true _ ∙ ap (λ n. is_le (ordering_then (slice_cmp nat_cmp start.0 x.0.0) (nat_cmp n x.0.1))) zero
    ∙ from_start (slice_cmp nat_cmp start.0 x.0.0) x.0.1

tied_from : (r s : Ordering) → is_eq (ordering_then r s) ≡ true → not (is_gt r) ≡ true
tied_from Less s e = absurd (cc)
tied_from Equal s e = refl
tied_from Greater s e = absurd (cc)

kept_at : (start : Stored) (n : ℕ) (es : Entries) → start.1 ≡ 0 → at_place (start.0, n) (filter (is_from start) es) ≡ at_place (start.0, n) es
kept_at start n [] zero = refl
kept_at start n (x ∷ es) zero = by (is_from start x) (is_at (place_cmp (start.0, n)) x.0) refl refl (kept_at start n es zero)
  where
    by : (b c : Bool) → is_from start x ≡ b → is_at (place_cmp (start.0, n)) x.0 ≡ c → at_place (start.0, n) (filter (is_from start) es) ≡ at_place (start.0, n) es
        → at_place (start.0, n) (cond b (x ∷ filter (is_from start) es) (filter (is_from start) es)) ≡ cond c (Some x.1) (at_place (start.0, n) es)
    by true c from at more = λ i. cond (at i) (Some x.1) (more i)
    by false true from at more =
        let never : false ≡ true = sym from ∙ from_is start x zero ∙ tied_from (slice_cmp nat_cmp start.0 x.0.0) (nat_cmp n x.0.1) at in
        absurd (cc)
    by false false from at more = more

all_kept : (p : Entry → Bool) (P : Stored → Type 0) (es : Entries) → AllByRecursion P (keys_of es) → AllByRecursion P (keys_of (filter p es))
all_kept p P [] all = tt
all_kept p P (x ∷ es) all = by (p x) (all_kept p P es all.1)
  where
    by : (b : Bool) → AllByRecursion P (keys_of (filter p es)) → AllByRecursion P (keys_of (cond b (x ∷ filter p es) (filter p es)))
    by true more = (all.0, more)
    by false more = more

sorted_kept : (p : Entry → Bool) (es : Entries) → IsStrictlySortedBy place_cmp (keys_of es) → IsStrictlySortedBy place_cmp (keys_of (filter p es))
unfolding IsStrictlySortedBy
sorted_kept p [] sorted = tt
sorted_kept p (x ∷ es) sorted = by (p x) (sorted_kept p es sorted.1)
  where
    by : (b : Bool) → IsStrictlySortedBy place_cmp (keys_of (filter p es)) → IsStrictlySortedBy place_cmp (keys_of (cond b (x ∷ filter p es) (filter p es)))
    by true more = (all_kept p (λ k. place_cmp x.0 k ≡ Less) es sorted.0, more)
    by false more = more

pub range_sorted : (start : Stored) (es r : Entries) → IsStrictlySortedBy place_cmp (keys_of es) → r ≡ filter (is_from start) es → IsStrictlySortedBy place_cmp (keys_of r)
range_sorted start es r sorted is = subst (λ l. IsStrictlySortedBy place_cmp (keys_of l)) (sym is) (sorted_kept (is_from start) es sorted)

all_from : (start : Stored) (es : Entries) → start.1 ≡ 0 → AllByRecursion (λ e. is_gt (bytes_cmp start.0 e.0.0) ≡ false) (filter (is_from start) es)
all_from start [] zero = tt
all_from start (x ∷ es) zero = by (is_from start x) refl (all_from start es zero)
  where
    by : (b : Bool) → is_from start x ≡ b → AllByRecursion (λ e. is_gt (bytes_cmp start.0 e.0.0) ≡ false) (filter (is_from start) es)
        → AllByRecursion (λ e. is_gt (bytes_cmp start.0 e.0.0) ≡ false) (cond b (x ∷ filter (is_from start) es) (filter (is_from start) es))
    by true from more = (not_true _ (sym (from_is start x zero) ∙ from), more)
    by false from more = more

pub range_reached : (start : Stored) (es r : Entries) → start.1 ≡ 0 → r ≡ filter (is_from start) es → AllByRecursion (λ e. is_gt (bytes_cmp start.0 e.0.0) ≡ false) r
range_reached start es r zero is = subst (λ l. AllByRecursion (λ e. is_gt (bytes_cmp start.0 e.0.0) ≡ false) l) (sym is) (all_from start es zero)

-- what is found from a name on is what a zone has
pub found_in : (name : List (List ℕ)) (start : Stored) (es r : Entries) (t : RecordType) (v : Option RecordSetValue) → HaveTheirKeys es
    → start.0 ≡ owner_code name → start.1 ≡ 0 → r ≡ filter (is_from start) es → v ≡ at_place (start.0, type_code t) r → v ≡ set_at (values_of es) (key name t)
found_in name start es r t v all e zero between is =
    is ∙ ap (at_place (start.0, type_code t)) between ∙ kept_at start (type_code t) es zero
    ∙ found_at es (start.0, type_code t) name t all (λ i. (e i, type_code t))

-- ---- whether the name exists

abbrev pub below : List (List ℕ) → RecordSetValue → Bool
below name s = at_or_below name s.name.labels

begins_below_name : (name : List (List ℕ)) (o : List ℕ) (x : Entry) → o ≡ owner_code name → x.0.0 ≡ owner_code x.1.name.labels → begins_with o x.0.0 ≡ below name x.1
begins_below_name name o x e owner =
    let decides = starts_is {E = λ (c d : ℕ). c == d} Decides-eqb x.0.0 o (begins_with o x.0.0) refl in
    tied_both (begins_with o x.0.0) (below name x.1)
    (λ h. begins_below name x.1.name.labels (drop (length o) x.0.0) (sym owner ∙ decides.0 h ∙ ap (λ (l : List ℕ). l ++ drop (length o) x.0.0) e))
    (λ h.
    let ahead = below_begins name x.1.name.labels h in
    decides.1 ahead.0 (owner ∙ ahead.1 ∙ ap (λ (l : List ℕ). l ++ ahead.0) (sym e)))

first_is : (name : List (List ℕ)) (o : List ℕ) (some : Bool) (r : Entries) → o ≡ owner_code name → IsFirst name some r → is_first_below o r ≡ some
first_is name o some [] e is = sym is
first_is name o some (x ∷ r) e is = begins_below_name name o x e is.1 ∙ sym is.0

pub exists_in : (name : List (List ℕ)) (start : Stored) (es r : Entries) (b : Bool) → HaveTheirKeys es → IsStrictlySortedBy place_cmp (keys_of es)
    → start.0 ≡ owner_code name → start.1 ≡ 0 → r ≡ filter (is_from start) es → b ≡ is_first_below start.0 r → b ≡ list_any (below name) (values_of es)
exists_in name start es r b all sorted e zero between is =
    is ∙ ap (is_first_below start.0) between ∙ first_is name start.0 (list_any (below name) (values_of es)) (filter (is_from start) es) e (first_below name start es e zero all sorted)

-- ---- rows

pub rows_of_found : (sets : List RecordSetValue) (name : List (List ℕ)) (t : RecordType) → set_rows (set_at sets (key name t)) ≡ rows_at (rows_of_sets sets) name t
rows_of_found sets name t = by (set_at sets (key name t)) refl
  where
    by : (o : Option RecordSetValue) → set_at sets (key name t) ≡ o → set_rows o ≡ rows_at (rows_of_sets sets) name t
    by None e = sym (no_rows_at sets name t (sym e))
    by (Some s) e = sym (rows_found_at sets name t s (sym e))
