-- Record sets in a map by their places: what a look-up, an insertion and a removal make of the list of sets.
use Rattle.std.proofs.Common.{◌≡◌, ◌==◌, ℕ, Bool, true, false, cond, not, ◌&&◌, ◌||◌, List, [], ◌∷◌, ◌++◌, map, length, take, drop, refl, sym, ap, ◌∙◌, subst, arith, Option, Some, None, Ordering, Less, Equal, Greater}
use Rattle.std.proofs.lemmas.Bool.Decides.{Decides-eqb}
use Rattle.std.proofs.lemmas.Slice.Eq.{starts_is}
use Rattle.std.specs.Cmp.{Equal-is, IsTotalOrder, tied_itself, tied_back, nat_cmp_total, ranked}
use Rattle.std.specs.Cmp.Lexicographic.{slice_cmp, pointwise}
use Rattle.std.specs.List.{list_any, filter, AllByRecursion}
use Rattle.std.specs.List.Sorted.{IsStrictlySortedBy}
use Rattle.std.specs.Map.{keys_of, values_of, lookup, remove_entry}
use Rattle.std.specs.BTreeMap.{insert_entry, is_at}
use Rattle.std.specs.BTreeMap.Range.{range_contains}
use Rattle.std.specs.Ordering.{eq_by_cmp, is_eq, is_gt, is_le, is_lt, nat_cmp, ordering_then, ordering_reverse, match_ordering}
use Rattle.std.specs.declared.ops.Bound.TheVariants.{Excluded, Included, Unbounded}
use Rattle.dns_wire.specs.declared.codes.record_type.RecordType.{RecordType}
use Rattle.dns_names.specs.Compare.{at_or_below}
use Rattle.dns_records.specs.RecordSet.{RecordSetValue}
use Rattle.dns_zone.specs.Rows.{Key, key, key_cmp, set_key}
use Rattle.dns_updates.specs.Keys.{owner_code, Place, place_cmp}
use Rattle.dns_zone.specs.Sets.{set_at, set_place, sets_after, AreInOrder, HaveTheirKeys}
use Rattle.dns_updates.proofs.OwnerCodeLaws.{below_begins, begins_below}
use Rattle.dns_zone.proofs.FirstLaws.{either_first}
use Rattle.dns_zone.proofs.KeptLaws.{tied_key}
use Rattle.dns_updates.proofs.PlaceLaws.{place, place_total, place_exact, places_tie, tied_both}
use Rattle.dns_zone.proofs.RowLaws.{key_total, tied}

-- a key as it is stored, and the order of these
abbrev pub Stored : Type 0
Stored = List ℕ × ℕ

abbrev pub place_of : Stored → Place
place_of k = (k.0, k.1)

abbrev pub stored_cmp : Stored → Stored → Ordering
stored_cmp a b = ordering_then (slice_cmp nat_cmp a.0 b.0) (nat_cmp a.1 b.1)

abbrev pub Entries : Type 0
Entries = List (Stored × RecordSetValue)

abbrev Entry : Type 0
Entry = Stored × RecordSetValue

-- ---- look-ups

pub one_tie : (k p : Stored) (a : List (List ℕ)) (t : RecordType) (s : RecordSetValue) → place_of k ≡ place a t → place_of p ≡ set_place s
    → is_at (stored_cmp k) p ≡ tied (key a t) s
one_tie k p a t s e f = (λ i. eq_by_cmp place_cmp (e i) (f i)) ∙ places_tie a s.name.labels t s.record_type

pub found_at : (es : Entries) (k : Stored) (a : List (List ℕ)) (t : RecordType) → HaveTheirKeys es → place_of k ≡ place a t
    → lookup (is_at (stored_cmp k)) es ≡ set_at (values_of es) (key a t)
found_at [] k a t all e = refl
found_at (x ∷ es) k a t all e = λ i. cond (one_tie k x.0 a t x.1 e all.0 i) (Some x.1) (found_at es k a t all.1 e i)

-- ---- order

places_after : (p : Stored) (s : RecordSetValue) (es : Entries) → place_of p ≡ set_place s → HaveTheirKeys es → AllByRecursion (λ k. stored_cmp p k ≡ Less) (keys_of es)
    → AllByRecursion (λ q. place_cmp (set_place s) q ≡ Less) (map set_place (values_of es))
places_after p s [] e all after = tt
places_after p s (x ∷ es) e all after = ((λ i. place_cmp (sym e i) (sym all.0 i)) ∙ after.0, places_after p s es e all.1 after.1)

pub in_order : (es : Entries) → HaveTheirKeys es → IsStrictlySortedBy stored_cmp (keys_of es) → AreInOrder (values_of es)
unfolding IsStrictlySortedBy
in_order [] all sorted = tt
in_order (x ∷ es) all sorted = (places_after x.0 x.1 es all.0 all.1 sorted.0, in_order es all.1 sorted.1)

-- ---- insertions

pub keys_inserted : (es : Entries) (k : Stored) (s : RecordSetValue) → HaveTheirKeys es → place_of k ≡ set_place s → HaveTheirKeys (insert_entry stored_cmp es k s)
keys_inserted [] k s all e = (e, tt)
keys_inserted (x ∷ es) k s all e = by (stored_cmp k x.0) refl (keys_inserted es k s all.1 e)
  where
    by : (r : Ordering) → stored_cmp k x.0 ≡ r → HaveTheirKeys (insert_entry stored_cmp es k s)
        → HaveTheirKeys (match_ordering r ((k, s) ∷ x ∷ es) ((x.0, s) ∷ es) (x ∷ insert_entry stored_cmp es k s))
    by Less h more = (e, all)
    by Equal h more = (sym (place_exact (place_of k) (place_of x.0) h) ∙ e, all.1)
    by Greater h more = (all.0, more)

hidden : (a b : Bool) (s t : RecordSetValue) (o : Option RecordSetValue) → a ≡ b → cond a (Some s) o ≡ cond a (Some s) (cond b (Some t) o)
hidden true b s t o e = refl
hidden false true s t o e = absurd (cc)
hidden false false s t o e = refl

-- sets at the same place tie with the same keys
same_ties : (q : Key) (s t : RecordSetValue) → set_place s ≡ set_place t → tied q s ≡ tied q t
same_ties q s t e =
    let same : eq_by_cmp key_cmp (set_key s) (set_key t) ≡ true =
    sym (places_tie s.name.labels t.name.labels s.record_type t.record_type) ∙ ap (λ p. eq_by_cmp place_cmp p (set_place t)) e ∙ (Equal-is (place_cmp (set_place t) (set_place t))).1 (tied_itself place_total (set_place t)) in
    ap (eq_by_cmp key_cmp q) (sym (tied_key (set_key s) (set_key t) same))

-- no key ties with sets at two places
apart : (q : Key) (k p : Stored) (s t : RecordSetValue) → place_of k ≡ set_place s → place_of p ≡ set_place t → stored_cmp k p ≡ Greater → tied q t ≡ true → tied q s ≡ true → ⊥
apart q k p s t e f h a b =
    let same : set_key t ≡ set_key s = tied_key q (set_key t) a ∙ sym (tied_key q (set_key s) b) in
    let tie : eq_by_cmp place_cmp (set_place s) (set_place t) ≡ true =
    places_tie s.name.labels t.name.labels s.record_type t.record_type ∙ ap (eq_by_cmp key_cmp (set_key s)) same ∙ (Equal-is (key_cmp (set_key s) (set_key s))).1 (tied_itself key_total (set_key s)) in
    let never : is_eq Greater ≡ true = ap is_eq (sym h) ∙ (λ i. eq_by_cmp place_cmp (e i) (f i)) ∙ tie in
    absurd (cc)

pub inserted_at : (es : Entries) (k : Stored) (s : RecordSetValue) (q : Key) → HaveTheirKeys es → place_of k ≡ set_place s
    → set_at (values_of (insert_entry stored_cmp es k s)) q ≡ cond (tied q s) (Some s) (set_at (values_of es) q)
inserted_at [] k s q all e = refl
inserted_at (x ∷ es) k s q all e = by (stored_cmp k x.0) refl (inserted_at es k s q all.1 e)
  where
    by : (r : Ordering) → stored_cmp k x.0 ≡ r → set_at (values_of (insert_entry stored_cmp es k s)) q ≡ cond (tied q s) (Some s) (set_at (values_of es) q)
        → set_at (values_of (match_ordering r ((k, s) ∷ x ∷ es) ((x.0, s) ∷ es) (x ∷ insert_entry stored_cmp es k s))) q ≡ cond (tied q s) (Some s) (cond (tied q x.1) (Some x.1) (set_at (values_of es) q))
    by Less h more = refl
    by Equal h more = hidden (tied q s) (tied q x.1) s x.1 (set_at (values_of es) q) (same_ties q s x.1 (sym e ∙ place_exact (place_of k) (place_of x.0) h ∙ all.0))
    by Greater h more = ap (cond (tied q x.1) (Some x.1)) more ∙ either_first (tied q s) (tied q x.1) (Some x.1) (Some s) (set_at (values_of es) q) (λ b a. apart q k x.0 s x.1 e all.0 h a b)

-- ---- removals

pub keys_left : (es : Entries) (p : Stored → Bool) → HaveTheirKeys es → HaveTheirKeys (remove_entry p es)
keys_left [] p all = tt
keys_left (x ∷ es) p all = by (p x.0) (keys_left es p all.1)
  where
    by : (b : Bool) → HaveTheirKeys (remove_entry p es) → HaveTheirKeys (cond b es (x ∷ remove_entry p es))
    by true more = all.1
    by false more = (all.0, more)

passed_by : (a b : Bool) (s : RecordSetValue) (o p : Option RecordSetValue) → a ≡ false → cond a (Some s) o ≡ o
passed_by true b s o p e = absurd (cc)
passed_by false b s o p e = refl

-- other keys have what they had
left_apart : (es : Entries) (k : Stored) (a : List (List ℕ)) (t : RecordType) (q : Key) → HaveTheirKeys es → place_of k ≡ place a t → eq_by_cmp key_cmp q (key a t) ≡ false
    → set_at (values_of (remove_entry (is_at (stored_cmp k)) es)) q ≡ set_at (values_of es) q
left_apart [] k a t q all e other = refl
left_apart (x ∷ es) k a t q all e other = by (is_at (stored_cmp k) x.0) refl (left_apart es k a t q all.1 e other)
  where
    untied : tied (key a t) x.1 ≡ true → tied q x.1 ≡ false
    untied here = ap (eq_by_cmp key_cmp q) (tied_key (key a t) (set_key x.1) here) ∙ other

    by : (b : Bool) → is_at (stored_cmp k) x.0 ≡ b → set_at (values_of (remove_entry (is_at (stored_cmp k)) es)) q ≡ set_at (values_of es) q
        → set_at (values_of (cond b es (x ∷ remove_entry (is_at (stored_cmp k)) es))) q ≡ cond (tied q x.1) (Some x.1) (set_at (values_of es) q)
    by true h more = sym (ap (λ b. cond b (Some x.1) (set_at (values_of es) q)) (untied (sym (one_tie k x.0 a t x.1 e all.0) ∙ h)))
    by false h more = ap (cond (tied q x.1) (Some x.1)) more

pub removed_at : (es new : Entries) (k : Stored) (a : List (List ℕ)) (t : RecordType) (q : Key) → HaveTheirKeys es → place_of k ≡ place a t
    → new ≡ remove_entry (is_at (stored_cmp k)) es → lookup (is_at (stored_cmp k)) new ≡ None
    → set_at (values_of new) q ≡ cond (eq_by_cmp key_cmp q (key a t)) None (set_at (values_of es) q)
removed_at es new k a t q all e is none = by (eq_by_cmp key_cmp q (key a t)) refl
  where
    left : HaveTheirKeys new
    left = subst HaveTheirKeys (sym is) (keys_left es (is_at (stored_cmp k)) all)

    by : (b : Bool) → eq_by_cmp key_cmp q (key a t) ≡ b → set_at (values_of new) q ≡ cond b None (set_at (values_of es) q)
    by true h = ap (set_at (values_of new)) (sym (tied_key q (key a t) h)) ∙ sym (found_at new k a t left e) ∙ none
    by false h = ap (λ (l : Entries). set_at (values_of l) q) is ∙ left_apart es k a t q all e h

-- ---- names below a name

pub then_equal : (r s : Ordering) → r ≡ Equal → ordering_then r s ≡ s
then_equal Less s e = absurd (cc)
then_equal Equal s e = refl
then_equal Greater s e = absurd (cc)

then_greater : (r s : Ordering) → r ≡ Greater → is_gt (ordering_then r s) ≡ true
then_greater Less s e = absurd (cc)
then_greater Equal s e = absurd (cc)
then_greater Greater s e = refl

pub front_first : (p x : List ℕ) → is_gt (slice_cmp nat_cmp p (p ++ x)) ≡ false
front_first [] [] = refl
front_first [] (y ∷ ys) = refl
front_first (c ∷ p) x = ap is_gt (then_equal (nat_cmp c c) (slice_cmp nat_cmp p (p ++ x)) (tied_itself nat_cmp_total c)) ∙ front_first p x

numbers_tie : (c d : ℕ) → nat_cmp c d ≡ Equal → c ≡ d
numbers_tie c d e = ranked c d Equal (sym e)

-- what lies between a front and a list that begins with it begins with it
pub between : (p y x : List ℕ) → is_gt (slice_cmp nat_cmp p y) ≡ false → is_gt (slice_cmp nat_cmp y (p ++ x)) ≡ false → (z : List ℕ) × (y ≡ p ++ z)
between [] y x g h = (y, refl)
between (c ∷ p) [] x g h = absurd (cc)
between (c ∷ p) (d ∷ y) x g h = by (nat_cmp c d) refl (between p y x)
  where
    by : (r : Ordering) → nat_cmp c d ≡ r → (is_gt (slice_cmp nat_cmp p y) ≡ false → is_gt (slice_cmp nat_cmp y (p ++ x)) ≡ false → (z : List ℕ) × (y ≡ p ++ z))
        → (z : List ℕ) × (d ∷ y ≡ c ∷ p ++ z)
    by Less e more =
        let never : true ≡ false = sym (then_greater (nat_cmp d c) (slice_cmp nat_cmp y (p ++ x)) (nat_cmp_total.antisymm d c ∙ ap ordering_reverse e)) ∙ h in
        absurd (cc)
    by Equal e more =
        let same : c ≡ d = numbers_tie c d e in
        let rest = more (sym (ap is_gt (then_equal (nat_cmp c d) (slice_cmp nat_cmp p y) e)) ∙ g)
        (sym (ap is_gt (then_equal (nat_cmp d c) (slice_cmp nat_cmp y (p ++ x)) (tied_back nat_cmp_total c d e))) ∙ h) in
        (rest.0, (λ i. sym same i ∷ rest.1 i))
    by Greater e more =
        let never : true ≡ false = sym (then_greater (nat_cmp c d) (slice_cmp nat_cmp p y) e) ∙ g in
        absurd (cc)

-- a key is from the first key of a name on where its bytes are
pub from_start : (r : Ordering) (n : ℕ) → is_le (ordering_then r (nat_cmp 0 n)) ≡ not (is_gt r)
from_start Less n = refl
from_start Equal n = by (nat_cmp 0 n) (nat_cmp_total) refl
  where
    by : (r : Ordering) → IsTotalOrder nat_cmp → nat_cmp 0 n ≡ r → is_le r ≡ true
    by Less o e = refl
    by Equal o e = refl
    by Greater o e = absurd (omega (arith, ranked 0 n Greater (sym e)))
from_start Greater n = refl

less_not_greater : (r s : Ordering) → ordering_then r s ≡ Less → is_gt r ≡ false
less_not_greater Less s e = refl
less_not_greater Equal s e = refl
less_not_greater Greater s e = absurd (cc)

abbrev below : List (List ℕ) → RecordSetValue → Bool
below name s = at_or_below name s.name.labels

abbrev is_from : Stored → Entry → Bool
is_from start e = range_contains stored_cmp (Included start) Unbounded e.0

-- whether the owner of the first entry from a name's first key on is at or below the name is whether that of some entry is
abbrev pub IsFirst : List (List ℕ) → Bool → Entries → Type 0
IsFirst name some [] = some ≡ false
IsFirst name some (e ∷ es) = (some ≡ at_or_below name e.1.name.labels) × (e.0.0 ≡ owner_code e.1.name.labels)

none_after : (name : List (List ℕ)) (x : Entry) (es : Entries) → place_of x.0 ≡ set_place x.1 → HaveTheirKeys es → AllByRecursion (λ k. stored_cmp x.0 k ≡ Less) (keys_of es)
    → is_gt (slice_cmp nat_cmp (owner_code name) x.0.0) ≡ false → below name x.1 ≡ false → list_any (below name) (values_of es) ≡ false
none_after name x [] e all after g other = refl
none_after name x (y ∷ es) e all after g other = by (below name y.1) refl (none_after name x es e all.1 after.1 g other)
  where
    owner_is : y.0.0 ≡ owner_code y.1.name.labels
    owner_is = ap (λ (p : Place). p.0) all.0

    by : (b : Bool) → below name y.1 ≡ b → list_any (below name) (values_of es) ≡ false → (below name y.1 || list_any (below name) (values_of es)) ≡ false
    by true h more =
        let ahead = below_begins name y.1.name.labels h in
        let up_to : is_gt (slice_cmp nat_cmp x.0.0 (owner_code name ++ ahead.0)) ≡ false =
        ap (λ (l : List ℕ). is_gt (slice_cmp nat_cmp x.0.0 l)) (sym ahead.1 ∙ sym owner_is) ∙ less_not_greater _ _ after.0 in
        let mid = between (owner_code name) x.0.0 ahead.0 g up_to in
        let here : below name x.1 ≡ true = begins_below name x.1.name.labels mid.0 (sym (ap (λ (p : Place). p.0) e) ∙ mid.1) in
        let never : true ≡ false = sym here ∙ other in
        absurd (cc)
    by false h more = (λ i. h i || list_any (below name) (values_of es)) ∙ more

pub not_true : (b : Bool) → not b ≡ true → b ≡ false
not_true true e = absurd (cc)
not_true false e = refl

pub and_true : (b : Bool) → (b && true) ≡ b
and_true true = refl
and_true false = refl

-- a set below the name is from its first key on
from_below : (name : List (List ℕ)) (start : Stored) (x : Entry) → start.0 ≡ owner_code name → start.1 ≡ 0 → place_of x.0 ≡ set_place x.1 → below name x.1 ≡ true → is_from start x ≡ true
from_below name start x e zero all h =
    let ahead = below_begins name x.1.name.labels h in
    let after : is_gt (slice_cmp nat_cmp start.0 x.0.0) ≡ false =
    (λ i. is_gt (slice_cmp nat_cmp (e i) ((ap (λ (p : Place). p.0) all ∙ ahead.1) i))) ∙ front_first (owner_code name) ahead.0 in
    and_true _ ∙ ap (λ n. is_le (ordering_then (slice_cmp nat_cmp start.0 x.0.0) (nat_cmp n x.0.1))) zero
    ∙ from_start (slice_cmp nat_cmp start.0 x.0.0) x.0.1 ∙ ap not after

pub first_below : (name : List (List ℕ)) (start : Stored) (es : Entries) → start.0 ≡ owner_code name → start.1 ≡ 0 → HaveTheirKeys es → IsStrictlySortedBy stored_cmp (keys_of es)
    → IsFirst name (list_any (below name) (values_of es)) (filter (is_from start) es)
unfolding IsStrictlySortedBy
first_below name start [] e zero all sorted = refl
first_below name start (x ∷ es) e zero all sorted = by (is_from start x) refl (first_below name start es e zero all.1 sorted.1)
  where
    owner_is : x.0.0 ≡ owner_code x.1.name.labels
    owner_is = ap (λ (p : Place). p.0) all.0

    at_first : (b : Bool) → below name x.1 ≡ b → is_from start x ≡ true → (below name x.1 || list_any (below name) (values_of es)) ≡ below name x.1
    at_first true h from = (λ i. h i || list_any (below name) (values_of es)) ∙ sym h
    at_first false h from =
        let after : not (is_gt (slice_cmp nat_cmp start.0 x.0.0)) ≡ true =
        sym (and_true _ ∙ ap (λ n. is_le (ordering_then (slice_cmp nat_cmp start.0 x.0.0) (nat_cmp n x.0.1))) zero ∙ from_start (slice_cmp nat_cmp start.0 x.0.0) x.0.1) ∙ from in
        (λ i. h i || none_after name x es all.0 all.1 sorted.0 (ap (λ (l : List ℕ). is_gt (slice_cmp nat_cmp l x.0.0)) (sym e) ∙ not_true _ after) h i) ∙ sym h

    skipped : (b : Bool) → below name x.1 ≡ b → is_from start x ≡ false → list_any (below name) (values_of es) ≡ (below name x.1 || list_any (below name) (values_of es))
    skipped true h from =
        let never : true ≡ false = sym (from_below name start x e zero all.0 h) ∙ from in
        absurd (cc)
    skipped false h from = λ i. sym h i || list_any (below name) (values_of es)

    by : (b : Bool) → is_from start x ≡ b → IsFirst name (list_any (below name) (values_of es)) (filter (is_from start) es)
        → IsFirst name (below name x.1 || list_any (below name) (values_of es)) (cond b (x ∷ filter (is_from start) es) (filter (is_from start) es))
    by true from more = (at_first (below name x.1) refl from, owner_is)
    by false from more = subst (λ b. IsFirst name b (filter (is_from start) es)) (skipped (below name x.1) refl from) more

begins_same : (name : List (List ℕ)) (x : Entry) (starts : Bool) (s p : List ℕ) → starts ≡ pointwise (λ (c d : ℕ). c == d) p (take (length p) s) → s ≡ x.0.0 → p ≡ owner_code name
    → x.0.0 ≡ owner_code x.1.name.labels → starts ≡ below name x.1
begins_same name x starts s p e is of owner =
    let decides = starts_is {E = λ (c d : ℕ). c == d} Decides-eqb s p starts e in
    tied_both starts (below name x.1)
    (λ h. begins_below name x.1.name.labels (drop (length p) s) (sym (is ∙ owner) ∙ decides.0 h ∙ ap (λ (l : List ℕ). l ++ drop (length p) s) of))
    (λ h.
    let ahead = below_begins name x.1.name.labels h in
    decides.1 ahead.0 (is ∙ owner ∙ ahead.1 ∙ ap (λ (l : List ℕ). l ++ ahead.0) (sym of)))

-- the first entry from a name's first key on tells whether the owner of some set is at or below the name
pub below_some : (name : List (List ℕ)) (start : Stored) (es r more : Entries) (x : Entry) (starts : Bool) (s p : List ℕ) → HaveTheirKeys es → IsStrictlySortedBy stored_cmp (keys_of es)
    → start.0 ≡ owner_code name → start.1 ≡ 0 → r ≡ filter (is_from start) es → r ≡ x ∷ more
    → starts ≡ pointwise (λ (c d : ℕ). c == d) p (take (length p) s) → s ≡ x.0.0 → p ≡ start.0 → starts ≡ list_any (below name) (values_of es)
below_some name start es r more x starts s p all sorted e zero between first h is of =
    let found : IsFirst name (list_any (below name) (values_of es)) (x ∷ more) =
    subst (IsFirst name (list_any (below name) (values_of es))) (sym between ∙ first) (first_below name start es e zero all sorted) in
    begins_same name x starts s p h is (of ∙ e) found.1 ∙ sym found.0

pub below_none : (name : List (List ℕ)) (start : Stored) (es r : Entries) → HaveTheirKeys es → IsStrictlySortedBy stored_cmp (keys_of es)
    → start.0 ≡ owner_code name → start.1 ≡ 0 → r ≡ filter (is_from start) es → r ≡ [] → false ≡ list_any (below name) (values_of es)
below_none name start es r all sorted e zero between none =
    let found : IsFirst name (list_any (below name) (values_of es)) [] =
    subst (IsFirst name (list_any (below name) (values_of es))) (sym between ∙ none) (first_below name start es e zero all sorted) in
    sym found

-- ---- the sets after a key

-- what comes after a key in the map is what comes after its place
pub after_start : (start : Stored) (es : Entries) → HaveTheirKeys es
    → values_of (filter (λ (e : Entry). range_contains stored_cmp (Excluded start) Unbounded e.0) es) ≡ sets_after (place_of start) (values_of es)
after_start start [] all = refl
after_start start (x ∷ es) all = by (is_lt (stored_cmp start x.0)) (is_lt (place_cmp (place_of start) (set_place x.1))) (λ i. is_lt (place_cmp (place_of start) (all.0 i))) (after_start start es all.1)
  where
    by : (a b : Bool) → a ≡ b → values_of (filter (λ (e : Entry). range_contains stored_cmp (Excluded start) Unbounded e.0) es) ≡ sets_after (place_of start) (values_of es)
        → values_of (cond (a && true) (x ∷ filter (λ (e : Entry). range_contains stored_cmp (Excluded start) Unbounded e.0) es) (filter (λ (e : Entry). range_contains stored_cmp (Excluded start) Unbounded e.0) es))
        ≡ cond b (x.1 ∷ sets_after (place_of start) (values_of es)) (sets_after (place_of start) (values_of es))
    by true true e more = ap (λ (l : List RecordSetValue). x.1 ∷ l) more
    by true false e more = absurd (cc)
    by false true e more = absurd (cc)
    by false false e more = more
