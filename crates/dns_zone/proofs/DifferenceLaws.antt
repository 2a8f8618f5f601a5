-- The difference that changed sets make in a zone.
use Rattle.std.proofs.Common.{◌≡◌, ◌∙◌, Bool, true, false, cond, not, ◌&&◌, ◌||◌, List, [], ◌∷◌, ◌++◌, map, refl, sym, ap, subst, Option, Some, None, Equal, Less, unwrap_or}
use Rattle.std.proofs.lemmas.List.Folds.{list_any-append}
use Rattle.std.proofs.lemmas.Map.Views.{any-filter_same}
use Rattle.std.specs.Cmp as cmp
use Rattle.std.specs.Cmp.{eq_by_cmp_equiv}
use Rattle.std.specs.FinMap as rows_map
use Rattle.std.specs.List.{filter, flat_map, list_any, AllByRecursion}
use Rattle.std.specs.List.Sorted.{IsStrictlySortedBy}
use Rattle.std.specs.Ordering.{eq_by_cmp, is_eq, is_gt}
use Rattle.std.specs.Prelude.{IfSome}
use Rattle.dns_wire.specs.codes.RecordType.{type_number}
use Rattle.dns_data.specs.rdata.{data_type}
use Rattle.dns_differences.specs.Difference.{has_row, in_zone, is_among, same_in_zone, same_row}
use Rattle.dns_differences.specs.declared.difference.Difference.{Difference}
use Rattle.dns_differences.proofs.RecordLaws.{row_equiv}
use Rattle.dns_messages.specs.Sound.{IsSoundIn}
use Rattle.dns_names.specs.Name.{DomainName}
use Rattle.dns_records.specs.Record.{Record}
use Rattle.dns_records.specs.Rows.{key_of, type_of_record}
use Rattle.dns_records.specs.declared.row.Row.{Row}
use Rattle.dns_updates.specs.Changes.{changed_at, changed_key, changed_place, overlay, AreInOrder}
use Rattle.dns_updates.specs.Keys.{Place, number_code, owner_code, place_cmp}
use Rattle.dns_updates.specs.declared.changes.changed_set.ChangedSet.{ChangedSet}
use Rattle.dns_updates.proofs.ChangeLaws.{rows_below, rows_found, tied}
use Rattle.dns_updates.proofs.PlaceLaws.{place_total, places_tie}
use Rattle.dns_updates.proofs.UpdateLaws.Maps.{key_total, same_key, tied_itself}
use Rattle.dns_zone.specs.Answer.{record_of}
use Rattle.dns_zone.specs.Change.{record_place, AreByPlace, IsChange}
use Rattle.dns_zone.specs.Rows.{Key, Rows, ZoneContent, key, key_cmp, row_of, rows_of, AreRowsAt, AreSoundRows, IsZone}
use Rattle.dns_zone.specs.internal.Change.{owner_of, records_added, records_deleted, rows_before, rows_lacking}
use Rattle.dns_zone.proofs.AnswerLaws.{sound_records}

-- ---- at most one changed set has a key

others_after : (s : ChangedSet) (ss : List ChangedSet) → AllByRecursion (λ q. place_cmp (changed_place s) q ≡ Less) (map changed_place ss)
    → AllByRecursion (λ t. eq_by_cmp key_cmp (changed_key s) (changed_key t) ≡ false) ss
others_after s [] after = tt
others_after s (t ∷ ss) after =
    (sym (places_tie s.name.labels t.name.labels s.record_type t.record_type) ∙ ap is_eq after.0, others_after s ss after.1)

abbrev AreApart : List ChangedSet → Type 0
AreApart [] = Unit {0}
AreApart (s ∷ ss) = AllByRecursion (λ t. eq_by_cmp key_cmp (changed_key s) (changed_key t) ≡ false) ss × AreApart ss

apart_of_order : (sets : List ChangedSet) → AreInOrder sets → AreApart sets
unfolding IsStrictlySortedBy
apart_of_order [] sorted = tt
apart_of_order (s ∷ ss) sorted = (others_after s ss sorted.0, apart_of_order ss sorted.1)

pub one_in_order : (s : ChangedSet) → AreInOrder (s ∷ [])
unfolding IsStrictlySortedBy
one_in_order s = (tt, tt)

-- what a test says of a set, if there is one
abbrev held : (ChangedSet → Bool) → Option ChangedSet → Bool
held g None = false
held g (Some c) = g c

none_tied : (q : Key) (s : ChangedSet) (g : ChangedSet → Bool) (ss : List ChangedSet) → tied q s ≡ true
    → AllByRecursion (λ t. eq_by_cmp key_cmp (changed_key s) (changed_key t) ≡ false) ss → list_any (λ c. tied q c && g c) ss ≡ false
none_tied q s g [] at all = refl
none_tied q s g (t ∷ ss) at all =
    let here : tied q t ≡ false = ap (λ (k : Key). eq_by_cmp key_cmp k (changed_key t)) (same_key q (changed_key s) at) ∙ all.0 in
    λ i. (here i && g t) || none_tied q s g ss at all.1 i

or_none : (a : Bool) → (a || false) ≡ a
or_none true = refl
or_none false = refl

picked : (q : Key) (g : ChangedSet → Bool) (sets : List ChangedSet) → AreApart sets → list_any (λ c. tied q c && g c) sets ≡ held g (changed_at sets q)
picked q g [] apart = refl
picked q g (s ∷ ss) apart = by (tied q s) refl (picked q g ss apart.1)
  where
    by : (b : Bool) → tied q s ≡ b → list_any (λ c. tied q c && g c) ss ≡ held g (changed_at ss q)
        → ((b && g s) || list_any (λ c. tied q c && g c) ss) ≡ held g (cond b (Some s) (changed_at ss q))
    by true at more = ap (λ (x : Bool). g s || x) (none_tied q s g ss at apart.0) ∙ or_none (g s)
    by false at more = more

found_tied : (q : Key) (sets : List ChangedSet) (c : ChangedSet) → changed_at sets q ≡ Some c → tied q c ≡ true
found_tied q [] c e = absurd (cc)
found_tied q (s ∷ ss) c e = by (tied q s) refl (λ h. found_tied q ss c h) e
  where
    by : (b : Bool) → tied q s ≡ b → (changed_at ss q ≡ Some c → tied q c ≡ true) → cond b (Some s) (changed_at ss q) ≡ Some c → tied q c ≡ true
    by true at more h = let is : s ≡ c = cc in ap (tied q) (sym is) ∙ at
    by false at more h = more h

-- each changed set is found at its own key
abbrev IsFoundIn : List ChangedSet → ChangedSet → Type 0
IsFoundIn sets c = changed_at sets (changed_key c) ≡ Some c

found_later : (s : ChangedSet) (ss xs : List ChangedSet) → AllByRecursion (λ t. eq_by_cmp key_cmp (changed_key s) (changed_key t) ≡ false) xs
    → AllByRecursion (IsFoundIn ss) xs → AllByRecursion (IsFoundIn (s ∷ ss)) xs
found_later s ss [] apart are = tt
found_later s ss (x ∷ xs) apart are = (
  ap (λ (b : Bool). cond b (Some s) (changed_at ss (changed_key x))) ((eq_by_cmp_equiv key_total).symm (changed_key x) (changed_key s) ∙ apart.0) ∙ are.0,
  found_later s ss xs apart.1 are.1,
)

all_found : (sets : List ChangedSet) → AreApart sets → AllByRecursion (IsFoundIn sets) sets
all_found [] apart = tt
all_found (s ∷ ss) apart =
    (ap (λ (b : Bool). cond b (Some s) (changed_at ss (changed_key s))) (tied_itself (changed_key s)), found_later s ss ss apart.0 (all_found ss apart.1))

-- ---- the records of one changed set

pub rows_alike : (rows : List Row) (x r : Row) → same_row x r ≡ true → has_row rows x ≡ has_row rows r
rows_alike [] x r e = refl
rows_alike (o ∷ os) x r e =
    λ i. (row_equiv.symm o x ∙ row_equiv.congr x r o e ∙ row_equiv.symm r o) i || rows_alike os x r e i

lacking_has : (others rows : List Row) (x : Row) → has_row (rows_lacking others rows) x ≡ (not (has_row others x) && has_row rows x)
lacking_has others rows x =
    any-filter_same (λ y. same_row y x) (λ y. not (has_row others y)) (not (has_row others x)) (λ y e. ap not (rows_alike others y x e)) rows

all_filtered : {A : Type 0} (P : A → Type 0) (p : A → Bool) (xs : List A) → AllByRecursion P xs → AllByRecursion P (filter p xs)
all_filtered P p [] all = tt
all_filtered P p (x ∷ xs) all = by (p x) (all_filtered P p xs all.1)
  where
    by : (b : Bool) → AllByRecursion P (filter p xs) → AllByRecursion P (cond b (x ∷ filter p xs) (filter p xs))
    by true more = (all.0, more)
    by false more = more

and_false : (a : Bool) → false ≡ (a && false)
and_false true = refl
and_false false = refl

gathered : (t a b : Bool) → ((t && a) || (t && b)) ≡ (t && (a || b))
gathered true a b = refl
gathered false a b = refl

-- rows whose data has the type of a key
abbrev AreOf : DomainName → Key → List Row → Type 0
AreOf owner k rows = AllByRecursion (λ (y : Row). key owner.labels (data_type y.rdata) ≡ k) rows

mapped : (owner : DomainName) (k : Key) (r : Record) (ys : List Row) → AreOf owner k ys
    → is_among (map (record_of owner) ys) r ≡ (eq_by_cmp key_cmp k (key_of r) && has_row ys (row_of r))
mapped owner k r [] all = and_false (eq_by_cmp key_cmp k (key_of r))
mapped owner k r (y ∷ ys) all =
    (λ i. (eq_by_cmp key_cmp (all.0 i) (key_of r) && same_row y (row_of r)) || mapped owner k r ys all.1 i)
    ∙ gathered (eq_by_cmp key_cmp k (key_of r)) (same_row y (row_of r)) (has_row ys (row_of r))

among_one : (c : ChangedSet) (others rows : List Row) (r : Record) → AreOf (owner_of c) (changed_key c) rows
    → is_among (map (record_of (owner_of c)) (rows_lacking others rows)) r ≡ (tied (key_of r) c && (not (has_row others (row_of r)) && has_row rows (row_of r)))
among_one c others rows r are =
    mapped (owner_of c) (changed_key c) r (rows_lacking others rows) (all_filtered _ (λ y. not (has_row others y)) rows are)
    ∙ (λ i. (eq_by_cmp_equiv key_total).symm (changed_key c) (key_of r) i && lacking_has others rows (row_of r) i)

-- ---- the records of all of them

among_all : (f : ChangedSet → List Record) (g : ChangedSet → Bool) (r : Record) (sets : List ChangedSet) → AllByRecursion (λ c. is_among (f c) r ≡ (tied (key_of r) c && g c)) sets
    → is_among (flat_map f sets) r ≡ list_any (λ c. tied (key_of r) c && g c) sets
among_all f g r [] all = refl
among_all f g r (c ∷ cs) all = list_any-append (λ x. same_in_zone x r) (f c) (flat_map f cs) ∙ (λ i. all.0 i || among_all f g r cs all.1 i)

all_parts : {A : Type 0} (P : A → Type 0) (xs ys : List A) → AllByRecursion P xs → AllByRecursion P ys → AllByRecursion P (xs ++ ys)
all_parts P [] ys a b = b
all_parts P (x ∷ xs) ys a b = (a.0, all_parts P xs ys a.1 b)

all_flat : (f : ChangedSet → List Record) (sets : List ChangedSet) → AllByRecursion (λ c. AllByRecursion (IsSoundIn false) (f c)) sets → AllByRecursion (IsSoundIn false) (flat_map f sets)
all_flat f [] all = tt
all_flat f (c ∷ cs) all = all_parts (IsSoundIn false) (f c) (flat_map f cs) all.0 (all_flat f cs all.1)

all_too : {A : Type 0} (P Q : A → Type 0) → ((x : A) → P x → Q x) → (xs : List A) → AllByRecursion P xs → AllByRecursion Q xs
all_too P Q f [] all = tt
all_too P Q f (x ∷ xs) all = (f x all.0, all_too P Q f xs all.1)

-- ---- their order

-- records at a place, before those at places that do not come before it
by_place_parts : (p : Place) (xs ys : List Record) → AllByRecursion (λ r. record_place r ≡ p) xs → AllByRecursion (λ r. is_gt (place_cmp p (record_place r)) ≡ false) ys
    → AreByPlace ys → AreByPlace (xs ++ ys)
by_place_parts p [] ys at after ordered = ordered
by_place_parts p (x ∷ xs) ys at after ordered = (
  all_parts (λ s. is_gt (place_cmp (record_place x) (record_place s)) ≡ false) xs ys
      (all_too (λ r. record_place r ≡ p) _ (λ s e. (λ i. is_gt (place_cmp (at.0 i) (e i))) ∙ ap is_gt (itself p)) xs at.1)
      (all_too (λ r. is_gt (place_cmp p (record_place r)) ≡ false) _ (λ s e. ap (λ (q : Place). is_gt (place_cmp q (record_place s))) at.0 ∙ e) ys after),
  by_place_parts p xs ys at.1 after ordered,
)
  where
    itself : (q : Place) → place_cmp q q ≡ Equal
    itself q = cmp.tied_itself place_total q

-- what follows a place
all_after : (f : ChangedSet → List Record) (p : Place) (sets : List ChangedSet) → AllByRecursion (λ c. AllByRecursion (λ r. record_place r ≡ changed_place c) (f c)) sets
    → AllByRecursion (λ q. place_cmp p q ≡ Less) (map changed_place sets) → AllByRecursion (λ r. is_gt (place_cmp p (record_place r)) ≡ false) (flat_map f sets)
all_after f p [] at after = tt
all_after f p (c ∷ cs) at after =
    all_parts _ (f c) (flat_map f cs) (all_too (λ r. record_place r ≡ changed_place c) _ (λ r e. ap (λ (q : Place). is_gt (place_cmp p q)) e ∙ ap is_gt after.0) (f c) at.0)
    (all_after f p cs at.1 after.1)

all_by_place : (f : ChangedSet → List Record) (sets : List ChangedSet) → AllByRecursion (λ c. AllByRecursion (λ r. record_place r ≡ changed_place c) (f c)) sets → AreInOrder sets
    → AreByPlace (flat_map f sets)
unfolding IsStrictlySortedBy
all_by_place f [] at sorted = tt
all_by_place f (c ∷ cs) at sorted =
    by_place_parts (changed_place c) (f c) (flat_map f cs) at.0 (all_after f (changed_place c) cs at.1 sorted.0) (all_by_place f cs at.1 sorted.1)

-- the records of a set are at its place
at_place : (c : ChangedSet) (ys : List Row) → AllByRecursion (λ (y : Row). type_number (data_type y.rdata) ≡ type_number c.record_type) ys
    → AllByRecursion (λ r. record_place r ≡ changed_place c) (map (record_of (owner_of c)) ys)
at_place c [] all = tt
at_place c (y ∷ ys) all = (λ i. (owner_code c.name.labels, number_code (all.0 i)), at_place c ys all.1)

-- ---- both versions

both_or_none : (a : Bool) → false ≡ (a && not a)
both_or_none true = refl
both_or_none false = refl

turned : (a b : Bool) → (not a && b) ≡ (b && not a)
turned true true = refl
turned true false = refl
turned false true = refl
turned false false = refl

-- rows at a key, of its type and sound
record AreGood (c : ChangedSet) (rows : List Row) : Type 0 where
  pub typed : AllByRecursion (λ (y : Row). type_number (data_type y.rdata) ≡ type_number c.record_type) rows
  pub of_type : AreOf (owner_of c) (changed_key c) rows
  pub sound : AreSoundRows rows

of_key : (c : ChangedSet) (ys : List Row) → AllByRecursion (λ (y : Row). type_number (data_type y.rdata) ≡ type_number c.record_type) ys → AreOf (owner_of c) (changed_key c) ys
of_key c [] all = tt
of_key c (y ∷ ys) all = (λ i. ((changed_key c).0, all.0 i), of_key c ys all.1)

rows_good : (zone : ZoneContent) (c : ChangedSet) → IsZone zone → AreGood c (rows_before zone.rows c)
rows_good zone c is = by (rows_map.get zone.rows (changed_key c)) (is.rows (changed_key c))
  where
    by : (o : Option (List Row)) → IfSome o (AreRowsAt zone.origin (changed_key c)) → AreGood c (unwrap_or o [])
    by None h = record { typed = tt; of_type = tt; sound = tt }
    by (Some rows) h = record { typed = h.of_type; of_type = of_key c rows h.of_type; sound = h.sound }

module _ (zone : ZoneContent) (sets : List ChangedSet) (sorted : AreInOrder sets) (is : IsZone zone) (is_new : IsZone (record zone { rows = overlay zone.rows sets })) where
  new_good : (c : ChangedSet) → IsFoundIn sets c → AreGood c (rows_of c.records)
  new_good c own = subst (AreGood c) (rows_found zone.rows sets c.name.labels c.record_type c own) (rows_good (record zone { rows = overlay zone.rows sets }) c is_new)

  module _ (r : Record) where
    before_at : (c : ChangedSet) → tied (key_of r) c ≡ true → has_row (rows_before zone.rows c) (row_of r) ≡ in_zone zone.rows r
    before_at c at = ap (λ (k : Key). has_row (unwrap_or (rows_map.get zone.rows k) []) (row_of r)) (sym (same_key (key_of r) (changed_key c) at))

    after_at : (c : ChangedSet) → changed_at sets (key_of r) ≡ Some c → has_row (rows_of c.records) (row_of r) ≡ in_zone (overlay zone.rows sets) r
    after_at c found = ap (λ (ys : List Row). has_row ys (row_of r)) (sym (rows_found zone.rows sets r.name.labels (type_of_record r) c found))

    same_at : changed_at sets (key_of r) ≡ None → in_zone zone.rows r ≡ in_zone (overlay zone.rows sets) r
    same_at none = ap (λ (ys : List Row). has_row ys (row_of r)) (sym (rows_below zone.rows sets r.name.labels (type_of_record r) none))

    deleted_by : (o : Option ChangedSet) → changed_at sets (key_of r) ≡ o → held (λ c. not (has_row (rows_of c.records) (row_of r)) && has_row (rows_before zone.rows c) (row_of r)) o ≡ (in_zone zone.rows r && not (in_zone (overlay zone.rows sets) r))
    deleted_by None e = both_or_none (in_zone zone.rows r) ∙ ap (λ (b : Bool). in_zone zone.rows r && not b) (same_at e)
    deleted_by (Some c) e =
        (λ i. not (after_at c e i) && before_at c (found_tied (key_of r) sets c e) i) ∙ turned (in_zone (overlay zone.rows sets) r) (in_zone zone.rows r)

    added_by : (o : Option ChangedSet) → changed_at sets (key_of r) ≡ o → held (λ c. not (has_row (rows_before zone.rows c) (row_of r)) && has_row (rows_of c.records) (row_of r)) o ≡ (in_zone (overlay zone.rows sets) r && not (in_zone zone.rows r))
    added_by None e = both_or_none (in_zone zone.rows r) ∙ ap (λ (b : Bool). b && not (in_zone zone.rows r)) (same_at e)
    added_by (Some c) e =
        (λ i. not (before_at c (found_tied (key_of r) sets c e) i) && after_at c e i) ∙ turned (in_zone zone.rows r) (in_zone (overlay zone.rows sets) r)

    deleted_at : is_among (flat_map (records_deleted zone.rows) sets) r ≡ (in_zone zone.rows r && not (in_zone (overlay zone.rows sets) r))
    deleted_at =
        among_all (records_deleted zone.rows) (λ c. not (has_row (rows_of c.records) (row_of r)) && has_row (rows_before zone.rows c) (row_of r)) r sets
        (all_too (IsFoundIn sets) _ (λ c own. among_one c (rows_of c.records) (rows_before zone.rows c) r (rows_good zone c is).of_type) sets (all_found sets (apart_of_order sets sorted)))
        ∙ picked (key_of r) _ sets (apart_of_order sets sorted) ∙ deleted_by (changed_at sets (key_of r)) refl

    added_at : is_among (flat_map (records_added zone.rows) sets) r ≡ (in_zone (overlay zone.rows sets) r && not (in_zone zone.rows r))
    added_at =
        among_all (records_added zone.rows) (λ c. not (has_row (rows_before zone.rows c) (row_of r)) && has_row (rows_of c.records) (row_of r)) r sets
        (all_too (IsFoundIn sets) _ (λ c own. among_one c (rows_before zone.rows c) (rows_of c.records) r (new_good c own).of_type) sets (all_found sets (apart_of_order sets sorted)))
        ∙ picked (key_of r) _ sets (apart_of_order sets sorted) ∙ added_by (changed_at sets (key_of r)) refl

  pub is_change : (d : Difference) → d.deleted.items ≡ flat_map (records_deleted zone.rows) sets → d.added.items ≡ flat_map (records_added zone.rows) sets
      → IsChange zone.rows (overlay zone.rows sets) d
  is_change d deleted added = record {
    difference = record {
      deleted = λ r. ap (λ (l : List Record). is_among l r) deleted ∙ deleted_at r;
      added = λ r. ap (λ (l : List Record). is_among l r) added ∙ added_at r;
    };
    deleted_sound = subst (AllByRecursion (IsSoundIn false)) (sym deleted) (all_flat (records_deleted zone.rows) sets
        (all_too (IsFoundIn sets) _ (λ c own. sound_records (owner_of c) (rows_lacking (rows_of c.records) (rows_before zone.rows c)) refl
        (all_filtered _ (λ y. not (has_row (rows_of c.records) y)) (rows_before zone.rows c) (rows_good zone c is).sound)) sets (all_found sets (apart_of_order sets sorted))));
    added_sound = subst (AllByRecursion (IsSoundIn false)) (sym added) (all_flat (records_added zone.rows) sets
        (all_too (IsFoundIn sets) _ (λ c own. sound_records (owner_of c) (rows_lacking (rows_before zone.rows c) (rows_of c.records)) refl
        (all_filtered _ (λ y. not (has_row (rows_before zone.rows c) y)) (rows_of c.records) (new_good c own).sound)) sets (all_found sets (apart_of_order sets sorted))));
    deleted_by_place = subst AreByPlace (sym deleted) (all_by_place (records_deleted zone.rows) sets
        (all_too (IsFoundIn sets) _ (λ c own. at_place c (rows_lacking (rows_of c.records) (rows_before zone.rows c))
        (all_filtered _ (λ y. not (has_row (rows_of c.records) y)) (rows_before zone.rows c) (rows_good zone c is).typed)) sets (all_found sets (apart_of_order sets sorted))) sorted);
    added_by_place = subst AreByPlace (sym added) (all_by_place (records_added zone.rows) sets
        (all_too (IsFoundIn sets) _ (λ c own. at_place c (rows_lacking (rows_before zone.rows c) (rows_of c.records))
        (all_filtered _ (λ y. not (has_row (rows_before zone.rows c) y)) (rows_of c.records) (new_good c own).typed)) sets (all_found sets (apart_of_order sets sorted))) sorted);
  }

-- ---- no change

pub no_change : (rows : Rows) (d : Difference) → d.deleted.items ≡ [] → d.added.items ≡ [] → IsChange rows rows d
no_change rows d deleted added = record {
  difference = record {
    deleted = λ r. ap (λ (l : List Record). is_among l r) deleted ∙ both_or_none (in_zone rows r);
    added = λ r. ap (λ (l : List Record). is_among l r) added ∙ both_or_none (in_zone rows r);
  };
  deleted_sound = subst (AllByRecursion (IsSoundIn false)) (sym deleted) tt;
  added_sound = subst (AllByRecursion (IsSoundIn false)) (sym added) tt;
  deleted_by_place = subst AreByPlace (sym deleted) tt;
  added_by_place = subst AreByPlace (sym added) tt;
}
