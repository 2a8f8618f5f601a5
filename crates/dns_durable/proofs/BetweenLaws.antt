-- What sets have of a zone that has changed since, as places are settled and the zone changes.
use Rattle.std.proofs.Common.{◌≡◌, ◌∙◌, ℕ, Bool, true, false, cond, List, [], ◌∷◌, ◌++◌, refl, sym, ap, subst, Option, Some, None}
use Rattle.std.specs.FinMap as rows_map
use Rattle.std.specs.List.{AllByRecursion}
use Rattle.std.specs.Ordering.{eq_by_cmp}
use Rattle.dns_wire.specs.declared.codes.record_type.RecordType.{RecordType}
use Rattle.dns_names.specs.Compare.{lower}
use Rattle.dns_records.specs.RecordSet.{RecordSetValue}
use Rattle.dns_updates.specs.Keys.{Place, owner_code, type_code}
use Rattle.dns_updates.proofs.OwnerCodeLaws.{owner_of_lower}
use Rattle.dns_updates.proofs.PlaceLaws.{keys_of_place}
use Rattle.dns_updates.proofs.UpdateLaws.Maps.{same_rows}
use Rattle.dns_zone.specs.Rows.{Key, Rows, key, key_cmp, rows_of_sets, set_key}
use Rattle.dns_zone.specs.Sets.{set_at, set_place}
use Rattle.dns_zone.proofs.KeptLaws.{tied_key}
use Rattle.dns_zone.proofs.RowLaws.{get-sets, label_twice, rows_if, tied}
use Rattle.dns_durable.specs.Draft.{DifferWhereSettled, Grows, IsBetween, Settled, place_of}

-- ---- places of keys

lower_twice : (labels : List (List ℕ)) → lower (lower labels) ≡ lower labels
lower_twice [] = refl
lower_twice (l ∷ ls) = λ i. label_twice l i ∷ lower_twice ls i

-- the place of the key of an owner and a type
pub place_of_key : (labels : List (List ℕ)) (record_type : RecordType) → place_of (key labels record_type) ≡ (owner_code labels, type_code record_type)
place_of_key labels record_type =
    let owner = owner_of_lower (lower labels) labels (lower_twice labels) in
    λ i. (owner i, type_code record_type)

-- the place of the key of a set is that of the set
pub place_of_set : (s : RecordSetValue) → place_of (set_key s) ≡ set_place s
place_of_set s = place_of_key s.name.labels s.record_type

-- the place of a key at which a set is found
pub place_of_tied : (k : Key) (s : RecordSetValue) → tied k s ≡ true → place_of k ≡ set_place s
place_of_tied k s e = ap place_of (sym (tied_key k (set_key s) e)) ∙ place_of_set s

-- sets at one place have one key
pub key_at_place : (s t : RecordSetValue) → set_place s ≡ set_place t → set_key s ≡ set_key t
key_at_place s t e = keys_of_place s.name.labels t.name.labels s.record_type t.record_type e

pub true_false : {A : Type 0} (b : Bool) → b ≡ true → b ≡ false → A
true_false true e f = absurd (cc)
true_false false e f = absurd (cc)

-- ---- one set more

-- what is found in sets satisfies what all of them do
pub found_all : (P : RecordSetValue → Type 0) (k : Key) (sets : List RecordSetValue) (s : RecordSetValue) → AllByRecursion P sets → set_at sets k ≡ Some s → P s × (tied k s ≡ true)
found_all P k [] s all e = absurd (cc)
found_all P k (x ∷ xs) s all e = by (tied k x) refl e (found_all P k xs s all.1)
  where
    by : (b : Bool) → tied k x ≡ b → cond b (Some x) (set_at xs k) ≡ Some s → (set_at xs k ≡ Some s → P s × (tied k s ≡ true)) → P s × (tied k s ≡ true)
    by true h f more =
        let same : x ≡ s = cc in
        subst (λ (t : RecordSetValue). P t × (tied k t ≡ true)) same (all.0, h)
    by false h f more = more f

-- every set is a set
pub each : (l : List RecordSetValue) → AllByRecursion (λ (s : RecordSetValue). Unit {0}) l
each [] = tt
each (x ∷ xs) = (tt, each xs)

-- nothing is found at a key whose place is not that of a set
none_found : (settled : Settled) (k : Key) (sets : List RecordSetValue) → AllByRecursion (λ s. settled (set_place s) ≡ true) sets → settled (place_of k) ≡ false → set_at sets k ≡ None
none_found settled k [] all un = refl
none_found settled k (x ∷ xs) all un = by (tied k x) refl (none_found settled k xs all.1 un)
  where
    by : (b : Bool) → tied k x ≡ b → set_at xs k ≡ None → cond b (Some x) (set_at xs k) ≡ None
    by true h more = true_false (settled (set_place x)) all.0 (ap settled (sym (place_of_tied k x h)) ∙ un)
    by false h more = more

-- what is found in one set more
more_found : (k : Key) (sets : List RecordSetValue) (s : RecordSetValue) → tied k s ≡ false → set_at (sets ++ s ∷ []) k ≡ set_at sets k
more_found k [] s e = ap (λ (b : Bool). cond b (Some s) None) e
more_found k (x ∷ xs) s e = ap (cond (tied k x) (Some x)) (more_found k xs s e)

last_found : (k : Key) (sets : List RecordSetValue) (s : RecordSetValue) → set_at sets k ≡ None → set_at (sets ++ s ∷ []) k ≡ cond (tied k s) (Some s) None
last_found k [] s e = refl
last_found k (x ∷ xs) s e = by (tied k x) e (last_found k xs s)
  where
    by : (b : Bool) → cond b (Some x) (set_at xs k) ≡ None → (set_at xs k ≡ None → set_at (xs ++ s ∷ []) k ≡ cond (tied k s) (Some s) None)
        → cond b (Some x) (set_at (xs ++ s ∷ []) k) ≡ cond (tied k s) (Some s) None
    by true f more = absurd (cc)
    by false f more = more f

pub all_more : {A : Type 0} (P : A → Type 0) (xs : List A) (x : A) → AllByRecursion P xs → P x → AllByRecursion P (xs ++ x ∷ [])
all_more P [] x all is = (is, tt)
all_more P (y ∷ ys) x all is = (all.0, all_more P ys x all.1 is)

all_weaker : {A : Type 0} (P Q : A → Type 0) (xs : List A) → ((x : A) → P x → Q x) → AllByRecursion P xs → AllByRecursion Q xs
all_weaker P Q [] f all = tt
all_weaker P Q (x ∷ xs) f all = (f x all.0, all_weaker P Q xs f all.1)

-- ---- between two versions

-- a place at which the zone has no set is settled, or some
pub none_more : (before now : Rows) (old new : Settled) (written sets : List RecordSetValue) → now ≡ rows_of_sets sets → Grows old new
    → ((k : Key) (t : RecordSetValue) → set_at sets k ≡ Some t → old (set_place t) ≡ false → new (set_place t) ≡ false)
    → IsBetween before now old written → IsBetween before now new written
none_more before now old new written sets is grows none between = record {
  all = all_weaker (λ (s : RecordSetValue). old (set_place s) ≡ true) (λ (s : RecordSetValue). new (set_place s) ≡ true) written (λ s. grows (set_place s)) between.all;
  written = λ k settled. at k (old (place_of k)) refl settled;
  others = λ k un. between.others k (older k (old (place_of k)) refl un);
}
  where
    older : (k : Key) (b : Bool) → old (place_of k) ≡ b → new (place_of k) ≡ false → b ≡ false
    older k true e un = true_false (new (place_of k)) (grows (place_of k) e) un
    older k false e un = refl

    here : (k : Key) (o : Option RecordSetValue) → set_at sets k ≡ o → old (place_of k) ≡ false → new (place_of k) ≡ true → rows_if o ≡ rows_if None
    here k None e un settled = refl
    here k (Some t) e un settled =
        let found = found_all (λ (s : RecordSetValue). Unit {0}) k sets t (each sets) e in
        let place : place_of k ≡ set_place t = place_of_tied k t found.1 in
        true_false (new (set_place t)) (ap new (sym place) ∙ settled) (none k t e (ap old (sym place) ∙ un))

    at : (k : Key) (b : Bool) → old (place_of k) ≡ b → new (place_of k) ≡ true → rows_map.get (rows_of_sets written) k ≡ rows_map.get before k
    at k true e settled = between.written k e
    at k false e settled =
        get-sets written k ∙ ap rows_if (none_found old k written between.all e)
        ∙ sym (here k (set_at sets k) refl e settled) ∙ sym (get-sets sets k)
        ∙ ap (λ (rows : Rows). rows_map.get rows k) (sym is) ∙ between.others k e

-- a set of the zone is written, at the only place that becomes settled and has one
pub one_more : (before now : Rows) (old new : Settled) (written sets : List RecordSetValue) (s : RecordSetValue) → now ≡ rows_of_sets sets → Grows old new
    → set_at sets (set_key s) ≡ Some s → old (set_place s) ≡ false → new (set_place s) ≡ true
    → ((k : Key) (t : RecordSetValue) → set_at sets k ≡ Some t → old (set_place t) ≡ false → new (set_place t) ≡ true → set_place t ≡ set_place s)
    → IsBetween before now old written → IsBetween before now new (written ++ s ∷ [])
one_more before now old new written sets s is grows there un settles only between = record {
  all = all_more (λ (t : RecordSetValue). new (set_place t) ≡ true) written s
      (all_weaker (λ (t : RecordSetValue). old (set_place t) ≡ true) (λ (t : RecordSetValue). new (set_place t) ≡ true) written (λ t. grows (set_place t)) between.all) settles;
  written = λ k settled. at k (old (place_of k)) refl settled;
  others = λ k un. between.others k (older k (old (place_of k)) refl un);
}
  where
    older : (k : Key) (b : Bool) → old (place_of k) ≡ b → new (place_of k) ≡ false → b ≡ false
    older k true e un = true_false (new (place_of k)) (grows (place_of k) e) un
    older k false e un = refl

    untied : (k : Key) (b : Bool) → tied k s ≡ b → old (place_of k) ≡ true → b ≡ false
    untied k true h e = true_false (old (set_place s)) (ap old (sym (place_of_tied k s h)) ∙ e) un
    untied k false h e = refl

    -- what the zone has at a key that becomes settled
    here : (k : Key) (o : Option RecordSetValue) (b : Bool) → set_at sets k ≡ o → tied k s ≡ b → old (place_of k) ≡ false → new (place_of k) ≡ true → o ≡ cond b (Some s) None
    here k o true e h unsettled settled = sym e ∙ ap (set_at sets) (sym (tied_key k (set_key s) h)) ∙ there
    here k None false e h unsettled settled = refl
    here k (Some t) false e h unsettled settled =
        let found = found_all (λ (u : RecordSetValue). Unit {0}) k sets t (each sets) e in
        let place : place_of k ≡ set_place t = place_of_tied k t found.1 in
        let same : set_key t ≡ set_key s = key_at_place t s (only k t e (ap old (sym place) ∙ unsettled) (ap new (sym place) ∙ settled)) in
        true_false (tied k s) (ap (eq_by_cmp key_cmp k) (sym same) ∙ found.1) h

    at : (k : Key) (b : Bool) → old (place_of k) ≡ b → new (place_of k) ≡ true → rows_map.get (rows_of_sets (written ++ s ∷ [])) k ≡ rows_map.get before k
    at k true e settled =
        get-sets (written ++ s ∷ []) k ∙ ap rows_if (more_found k written s (untied k (tied k s) refl e)) ∙ sym (get-sets written k) ∙ between.written k e
    at k false e settled =
        get-sets (written ++ s ∷ []) k ∙ ap rows_if (last_found k written s (none_found old k written between.all e))
        ∙ ap rows_if (sym (here k (set_at sets k) (tied k s) refl refl e settled)) ∙ sym (get-sets sets k)
        ∙ ap (λ (rows : Rows). rows_map.get rows k) (sym is) ∙ between.others k e

-- the zone changes where places are settled
pub moved : (before now later : Rows) (settled : Settled) (written : List RecordSetValue) → DifferWhereSettled settled now later
    → IsBetween before now settled written → IsBetween before later settled written
moved before now later settled written differs between = record {
  all = between.all;
  written = between.written;
  others = λ k un. differs k un ∙ between.others k un;
}

-- where all places are settled, the sets have the rows from before
pub whole : (before now : Rows) (settled : Settled) (written : List RecordSetValue) → ((p : Place) → settled p ≡ true) → IsBetween before now settled written → rows_of_sets written ≡ before
whole before now settled written all between = same_rows (rows_of_sets written) before (λ k. between.written k (all (place_of k)))

-- ---- the beginning

-- the first of sets is written, and only its place and what comes before are settled
pub first_settled : (before : Rows) (settled : Settled) (s : RecordSetValue) (more : List RecordSetValue) → before ≡ rows_of_sets (s ∷ more)
    → settled (set_place s) ≡ true → AllByRecursion (λ t. settled (set_place t) ≡ false) more → IsBetween before before settled (s ∷ [])
first_settled before settled s more is own others = record {
  all = (own, tt);
  written = λ k e. get-sets (s ∷ []) k ∙ ap (λ (o : Option RecordSetValue). rows_if (cond (tied k s) (Some s) o)) (sym (none_later k (set_at more k) refl e))
      ∙ sym (get-sets (s ∷ more) k) ∙ ap (λ (rows : Rows). rows_map.get rows k) (sym is);
  others = λ k e. refl;
}
  where
    none_later : (k : Key) (o : Option RecordSetValue) → set_at more k ≡ o → settled (place_of k) ≡ true → o ≡ None
    none_later k None e h = refl
    none_later k (Some t) e h =
        let found = found_all (λ (u : RecordSetValue). settled (set_place u) ≡ false) k more t others e in
        true_false (settled (place_of k)) h (ap settled (place_of_tied k t found.1) ∙ found.0)
