-- Changed sets in a map by their places: what a look-up, an insertion and other records make of the list of changed sets.
use Rattle.std.proofs.Common.{◌≡◌, ℕ, Bool, true, false, cond, List, [], ◌∷◌, map, refl, sym, ap, ◌∙◌, Option, Some, None, Ordering, Less, Equal, Greater}
use Rattle.std.specs.Cmp.{Equal-is, eq_by_cmp_equiv, tied_itself}
use Rattle.std.specs.Cmp.Lexicographic.{slice_cmp}
use Rattle.std.specs.List.{AllByRecursion}
use Rattle.std.specs.List.Sorted.{IsStrictlySortedBy}
use Rattle.std.specs.Map.{keys_of, values_of, lookup, set_value}
use Rattle.std.specs.BTreeMap.{insert_entry, is_at}
use Rattle.std.specs.Ordering.{eq_by_cmp, is_eq, nat_cmp, ordering_then, match_ordering}
use Rattle.dns_wire.specs.declared.codes.record_type.RecordType.{RecordType}
use Rattle.dns_records.specs.Record.{Record}
use Rattle.dns_records.specs.Rows.{Key, key, key_cmp}
use Rattle.dns_updates.specs.Changes.{changed_at, changed_key, AreInOrder}
use Rattle.dns_updates.specs.Keys.{Place, place_cmp}
use Rattle.dns_updates.specs.internal.Indexes.{changed_place, with_records, HaveTheirKeys}
use Rattle.dns_updates.specs.declared.changes.changed_set.ChangedSet.{ChangedSet}
use Rattle.dns_updates.proofs.ChangeLaws.{tied}
use Rattle.dns_updates.proofs.PlaceLaws.{place, place_total, place_exact, places_tie}
use Rattle.dns_updates.proofs.UpdateLaws.Maps.{key_total, same_key}

tied_key : (q k : Key) → eq_by_cmp key_cmp q k ≡ true → k ≡ q
tied_key q k e = sym (same_key q k e)

either_first : {A : Type 0} (a b : Bool) (x y z : Option A) → (a ≡ true → b ≡ true → ⊥) → cond b x (cond a y z) ≡ cond a y (cond b x z)
either_first true true x y z h = absurd (h refl refl)
either_first true false x y z h = refl
either_first false true x y z h = refl
either_first false false x y z h = refl

-- a key as it is stored, and the order of these
abbrev pub Stored : Type 0
Stored = List ℕ × ℕ

abbrev pub place_of : Stored → Place
place_of k = (k.0, k.1)

abbrev pub stored_cmp : Stored → Stored → Ordering
stored_cmp a b = ordering_then (slice_cmp nat_cmp a.0 b.0) (nat_cmp a.1 b.1)

abbrev pub Entries : Type 0
Entries = List (Stored × ChangedSet)

-- ---- look-ups

pub one_tie : (k p : Stored) (a : List (List ℕ)) (t : RecordType) (s : ChangedSet) → place_of k ≡ place a t → place_of p ≡ changed_place s
    → is_at (stored_cmp k) p ≡ tied (key a t) s
one_tie k p a t s e f = (λ i. eq_by_cmp place_cmp (e i) (f i)) ∙ places_tie a s.name.labels t s.record_type

pub found_at : (es : Entries) (k : Stored) (a : List (List ℕ)) (t : RecordType) → HaveTheirKeys es → place_of k ≡ place a t
    → lookup (is_at (stored_cmp k)) es ≡ changed_at (values_of es) (key a t)
found_at [] k a t all e = refl
found_at (x ∷ es) k a t all e = λ i. cond (one_tie k x.0 a t x.1 e all.0 i) (Some x.1) (found_at es k a t all.1 e i)

-- ---- order

places_after : (p : Stored) (s : ChangedSet) (es : Entries) → place_of p ≡ changed_place s → HaveTheirKeys es → AllByRecursion (λ k. stored_cmp p k ≡ Less) (keys_of es)
    → AllByRecursion (λ q. place_cmp (changed_place s) q ≡ Less) (map changed_place (values_of es))
places_after p s [] e all after = tt
places_after p s (x ∷ es) e all after = ((λ i. place_cmp (sym e i) (sym all.0 i)) ∙ after.0, places_after p s es e all.1 after.1)

pub in_order : (es : Entries) → HaveTheirKeys es → IsStrictlySortedBy stored_cmp (keys_of es) → AreInOrder (values_of es)
unfolding IsStrictlySortedBy
in_order [] all sorted = tt
in_order (x ∷ es) all sorted = (places_after x.0 x.1 es all.0 all.1 sorted.0, in_order es all.1 sorted.1)

-- ---- insertions

pub keys_inserted : (es : Entries) (k : Stored) (s : ChangedSet) → HaveTheirKeys es → place_of k ≡ changed_place s → HaveTheirKeys (insert_entry stored_cmp es k s)
keys_inserted [] k s all e = (e, tt)
keys_inserted (x ∷ es) k s all e = by (stored_cmp k x.0) refl (keys_inserted es k s all.1 e)
  where
    by : (r : Ordering) → stored_cmp k x.0 ≡ r → HaveTheirKeys (insert_entry stored_cmp es k s)
        → HaveTheirKeys (match_ordering r ((k, s) ∷ x ∷ es) ((x.0, s) ∷ es) (x ∷ insert_entry stored_cmp es k s))
    by Less h more = (e, all)
    by Equal h more = (sym (place_exact (place_of k) (place_of x.0) h) ∙ e, all.1)
    by Greater h more = (all.0, more)

hidden : (a b : Bool) (s t : ChangedSet) (o : Option ChangedSet) → a ≡ b → cond a (Some s) o ≡ cond a (Some s) (cond b (Some t) o)
hidden true b s t o e = refl
hidden false true s t o e = absurd (cc)
hidden false false s t o e = refl

-- sets at the same place tie with the same keys
same_ties : (q : Key) (s t : ChangedSet) → changed_place s ≡ changed_place t → tied q s ≡ tied q t
same_ties q s t e =
    let same : eq_by_cmp key_cmp (changed_key s) (changed_key t) ≡ true =
    sym (places_tie s.name.labels t.name.labels s.record_type t.record_type) ∙ ap (λ p. eq_by_cmp place_cmp p (changed_place t)) e ∙ (Equal-is (place_cmp (changed_place t) (changed_place t))).1 (tied_itself place_total (changed_place t)) in
    ap (eq_by_cmp key_cmp q) (sym (tied_key (changed_key s) (changed_key t) same))

-- no key ties with sets at two places
apart : (q : Key) (k p : Stored) (s t : ChangedSet) → place_of k ≡ changed_place s → place_of p ≡ changed_place t → stored_cmp k p ≡ Greater → tied q t ≡ true → tied q s ≡ true → ⊥
apart q k p s t e f h a b =
    let same : changed_key t ≡ changed_key s = tied_key q (changed_key t) a ∙ sym (tied_key q (changed_key s) b) in
    let tie : eq_by_cmp place_cmp (changed_place s) (changed_place t) ≡ true =
    places_tie s.name.labels t.name.labels s.record_type t.record_type ∙ ap (eq_by_cmp key_cmp (changed_key s)) same ∙ (Equal-is (key_cmp (changed_key s) (changed_key s))).1 (tied_itself key_total (changed_key s)) in
    let never : is_eq Greater ≡ true = ap is_eq (sym h) ∙ (λ i. eq_by_cmp place_cmp (e i) (f i)) ∙ tie in
    absurd (cc)

pub inserted_at : (es : Entries) (k : Stored) (s : ChangedSet) (q : Key) → HaveTheirKeys es → place_of k ≡ changed_place s
    → changed_at (values_of (insert_entry stored_cmp es k s)) q ≡ cond (tied q s) (Some s) (changed_at (values_of es) q)
inserted_at [] k s q all e = refl
inserted_at (x ∷ es) k s q all e = by (stored_cmp k x.0) refl (inserted_at es k s q all.1 e)
  where
    by : (r : Ordering) → stored_cmp k x.0 ≡ r → changed_at (values_of (insert_entry stored_cmp es k s)) q ≡ cond (tied q s) (Some s) (changed_at (values_of es) q)
        → changed_at (values_of (match_ordering r ((k, s) ∷ x ∷ es) ((x.0, s) ∷ es) (x ∷ insert_entry stored_cmp es k s))) q ≡ cond (tied q s) (Some s) (cond (tied q x.1) (Some x.1) (changed_at (values_of es) q))
    by Less h more = refl
    by Equal h more = hidden (tied q s) (tied q x.1) s x.1 (changed_at (values_of es) q) (same_ties q s x.1 (sym e ∙ place_exact (place_of k) (place_of x.0) h ∙ all.0))
    by Greater h more = ap (cond (tied q x.1) (Some x.1)) more ∙ either_first (tied q s) (tied q x.1) (Some x.1) (Some s) (changed_at (values_of es) q) (λ b a. apart q k x.0 s x.1 e all.0 h a b)

-- ---- other records at a key

tied_back : (q k : Key) (s : ChangedSet) → tied k s ≡ true → tied q s ≡ eq_by_cmp key_cmp q k
tied_back q k s e = ap (eq_by_cmp key_cmp q) (tied_key k (changed_key s) e)

pub value_at : (es : Entries) (k : Stored) (a : List (List ℕ)) (t : RecordType) (old : ChangedSet) (records : List Record) (w : ChangedSet) (q : Key) → HaveTheirKeys es → place_of k ≡ place a t
    → lookup (is_at (stored_cmp k)) es ≡ Some old → w ≡ record old { records = records }
    → changed_at (values_of (set_value (is_at (stored_cmp k)) es w)) q ≡ cond (eq_by_cmp key_cmp q (key a t)) (with_records records (changed_at (values_of es) q)) (changed_at (values_of es) q)
value_at [] k a t old records w q all e had is = absurd (cc)
value_at (x ∷ es) k a t old records w q all e had is = by (is_at (stored_cmp k) x.0) refl had (value_at es k a t old records w q all.1 e)
  where
    K : Key
    K = key a t

    tie : is_at (stored_cmp k) x.0 ≡ tied K x.1
    tie = one_tie k x.0 a t x.1 e all.0

    here : tied K x.1 ≡ true → Some x.1 ≡ Some old → (b : Bool) → eq_by_cmp key_cmp q K ≡ b
        → cond (tied q w) (Some w) (changed_at (values_of es) q) ≡ cond b (with_records records (cond (tied q x.1) (Some x.1) (changed_at (values_of es) q))) (cond (tied q x.1) (Some x.1) (changed_at (values_of es) q))
    here at first b same =
        let old_is : x.1 ≡ old = cc in
        let w_is : w ≡ record x.1 { records = records } = is ∙ ap (λ (s : ChangedSet). record s { records = records }) (sym old_is) in
        let one : tied q x.1 ≡ b = tied_back q K x.1 at ∙ same in
        ap (λ (s : ChangedSet). cond (tied q s) (Some s) (changed_at (values_of es) q)) w_is
        ∙ ap (λ c. cond c (Some (record x.1 { records = records })) (changed_at (values_of es) q)) one
        ∙ split b (changed_at (values_of es) q)
        ∙ ap (λ c. cond b (with_records records (cond c (Some x.1) (changed_at (values_of es) q))) (cond c (Some x.1) (changed_at (values_of es) q))) (sym one)
      where
        split : (b : Bool) (o : Option ChangedSet) → cond b (Some (record x.1 { records = records })) o ≡ cond b (with_records records (cond b (Some x.1) o)) (cond b (Some x.1) o)
        split true o = refl
        split false o = refl

    there : tied K x.1 ≡ false → changed_at (values_of (set_value (is_at (stored_cmp k)) es w)) q ≡ cond (eq_by_cmp key_cmp q K) (with_records records (changed_at (values_of es) q)) (changed_at (values_of es) q)
        → (b : Bool) → tied q x.1 ≡ b
        → cond b (Some x.1) (changed_at (values_of (set_value (is_at (stored_cmp k)) es w)) q) ≡ cond (eq_by_cmp key_cmp q K) (with_records records (cond b (Some x.1) (changed_at (values_of es) q))) (cond b (Some x.1) (changed_at (values_of es) q))
    there other more true at =
        let apart : eq_by_cmp key_cmp q K ≡ false =
        ap (λ (p : Key). eq_by_cmp key_cmp p K) (sym (tied_key q (changed_key x.1) at)) ∙ (eq_by_cmp_equiv key_total).symm (changed_key x.1) K ∙ other in
        sym (ap (λ c. cond c (with_records records (Some x.1)) (Some x.1)) apart)
    there other more false at = more

    by : (b : Bool) → is_at (stored_cmp k) x.0 ≡ b → cond b (Some x.1) (lookup (is_at (stored_cmp k)) es) ≡ Some old
        → (lookup (is_at (stored_cmp k)) es ≡ Some old → w ≡ record old { records = records } → changed_at (values_of (set_value (is_at (stored_cmp k)) es w)) q ≡ cond (eq_by_cmp key_cmp q K) (with_records records (changed_at (values_of es) q)) (changed_at (values_of es) q))
        → changed_at (values_of (cond b ((x.0, w) ∷ es) (x ∷ set_value (is_at (stored_cmp k)) es w))) q ≡ cond (eq_by_cmp key_cmp q K) (with_records records (cond (tied q x.1) (Some x.1) (changed_at (values_of es) q))) (cond (tied q x.1) (Some x.1) (changed_at (values_of es) q))
    by true at first more = here (sym tie ∙ at) first (eq_by_cmp key_cmp q K) refl
    by false at first more = there (sym tie ∙ at) (more first is) (tied q x.1) refl

pub keys_of_value : (es : Entries) (p : Stored → Bool) (old w : ChangedSet) → HaveTheirKeys es → lookup p es ≡ Some old → changed_place w ≡ changed_place old → HaveTheirKeys (set_value p es w)
keys_of_value [] p old w all had same = tt
keys_of_value (x ∷ es) p old w all had same = by (p x.0) had (keys_of_value es p old w all.1)
  where
    by : (b : Bool) → cond b (Some x.1) (lookup p es) ≡ Some old → (lookup p es ≡ Some old → changed_place w ≡ changed_place old → HaveTheirKeys (set_value p es w)) → HaveTheirKeys (cond b ((x.0, w) ∷ es) (x ∷ set_value p es w))
    by true first more =
        let old_is : x.1 ≡ old = cc in
        (all.0 ∙ ap changed_place old_is ∙ sym same, all.1)
    by false first more = (all.0, more first same)

-- no changed set is at the key
pub none_replaced : (records : List Record) (sets : List ChangedSet) (k q : Key) → changed_at sets k ≡ None → changed_at sets q ≡ cond (eq_by_cmp key_cmp q k) (with_records records (changed_at sets q)) (changed_at sets q)
none_replaced records sets k q none = by (eq_by_cmp key_cmp q k) refl
  where
    by : (b : Bool) → eq_by_cmp key_cmp q k ≡ b → changed_at sets q ≡ cond b (with_records records (changed_at sets q)) (changed_at sets q)
    by true t =
        let here : changed_at sets q ≡ None = ap (changed_at sets) (same_key q k t) ∙ none in
        here ∙ sym (ap (with_records records) here)
    by false t = refl
