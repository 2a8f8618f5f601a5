-- Changed sets that are stored in three steps come to stand in place of those of the zone.
use Rattle.std.proofs.Common.{◌≡◌, ◌==◌, ◌+◌, ◌<◌, ◌∙◌, ℕ, Bool, true, false, cond, not, ◌&&◌, ◌||◌, List, [], ◌∷◌, length, take, drop, get_or, set, refl, sym, ap, subst, arith, zero, suc, is_some, Option, Some, None}
use Rattle.std.specs.Prelude.{IfSome}
use Rattle.std.proofs.lemmas.Bool.Decides.{nat_tests}
use Rattle.std.specs.FinMap as rows_map
use Rattle.std.specs.List as list
use Rattle.std.specs.List.{list_any}
use Rattle.std.specs.Map.{values_of, lookup, set_value}
use Rattle.std.specs.BTreeMap.{is_at}
use Rattle.std.specs.Cmp.{eq_by_cmp_equiv}
use Rattle.std.specs.Ordering.{eq_by_cmp}
use Rattle.dns_wire.specs.codes.RecordType.{type_number, type_of}
use Rattle.dns_wire.specs.declared.codes.record_type.RecordType.{RecordType}
use Rattle.dns_records.specs.Record.{Record}
use Rattle.dns_records.specs.RecordSet.{RecordSetValue}
use Rattle.dns_updates.specs.declared.changes.changed_set.ChangedSet.{ChangedSet}
use Rattle.dns_updates.specs.Changes.{changed_key, overlay}
use Rattle.dns_updates.proofs.ChangeLaws.{changed_or, get-overlay}
use Rattle.dns_updates.proofs.UpdateLaws.Maps.{filled, filled_empty, filled_more, same_key}
use Rattle.dns_updates.proofs.Walks.{drop_at}
use Rattle.dns_zone.specs.Rows.{Key, key, key_cmp, set_key, row_of, rows_of, rows_of_sets, HasNoEmptySet}
use Rattle.dns_zone.specs.Sets.{set_at, set_place, with_records, HaveTheirKeys}
use Rattle.dns_zone.specs.internal.Store.{has_key, changed_keys, reserved_set, or_reserved, is_reserved, reserved_at, one_reserved, or_stored, stored_at, one_stored, is_empty_set, released_at, changed_at}
use Rattle.dns_zone.proofs.KeptLaws.{tied_key}
use Rattle.dns_updates.proofs.PlaceLaws.{place}
use Rattle.dns_zone.proofs.RowLaws.{key_total, key_antisymmetric, get-sets, rows_if, tied}
use Rattle.dns_zone.proofs.SetLaws.{Stored, Entries, stored_cmp, place_of, one_tie}
use Rattle.dns_zone.proofs.WholeLaws.{IsPlainSet}

pub false_true : false ≡ true → ⊥
false_true e = cc

-- ---- other records at a key

tied_back : (q k : Key) (s : RecordSetValue) → tied k s ≡ true → tied q s ≡ eq_by_cmp key_cmp q k
tied_back q k s e = ap (eq_by_cmp key_cmp q) (tied_key k (set_key s) e)

pub value_at : (es : Entries) (k : Stored) (a : List (List ℕ)) (t : RecordType) (old : RecordSetValue) (records : List Record) (w : RecordSetValue) (q : Key) → HaveTheirKeys es → place_of k ≡ place a t
    → lookup (is_at (stored_cmp k)) es ≡ Some old → w ≡ record old { records = records }
    → set_at (values_of (set_value (is_at (stored_cmp k)) es w)) q ≡ cond (eq_by_cmp key_cmp q (key a t)) (with_records records (set_at (values_of es) q)) (set_at (values_of es) q)
value_at [] k a t old records w q all e had is = absurd (cc)
value_at (x ∷ es) k a t old records w q all e had is = by (is_at (stored_cmp k) x.0) refl had (value_at es k a t old records w q all.1 e)
  where
    K : Key
    K = key a t

    tie : is_at (stored_cmp k) x.0 ≡ tied K x.1
    tie = one_tie k x.0 a t x.1 e all.0

    here : tied K x.1 ≡ true → Some x.1 ≡ Some old → (b : Bool) → eq_by_cmp key_cmp q K ≡ b
        → cond (tied q w) (Some w) (set_at (values_of es) q) ≡ cond b (with_records records (cond (tied q x.1) (Some x.1) (set_at (values_of es) q))) (cond (tied q x.1) (Some x.1) (set_at (values_of es) q))
    here at first b same =
        let old_is : x.1 ≡ old = cc in
        let w_is : w ≡ record x.1 { records = records } = is ∙ ap (λ (s : RecordSetValue). record s { records = records }) (sym old_is) in
        let one : tied q x.1 ≡ b = tied_back q K x.1 at ∙ same in
        ap (λ (s : RecordSetValue). cond (tied q s) (Some s) (set_at (values_of es) q)) w_is
        ∙ ap (λ c. cond c (Some (record x.1 { records = records })) (set_at (values_of es) q)) one
        ∙ split b (set_at (values_of es) q)
        ∙ ap (λ c. cond b (with_records records (cond c (Some x.1) (set_at (values_of es) q))) (cond c (Some x.1) (set_at (values_of es) q))) (sym one)
      where
        split : (b : Bool) (o : Option RecordSetValue) → cond b (Some (record x.1 { records = records })) o ≡ cond b (with_records records (cond b (Some x.1) o)) (cond b (Some x.1) o)
        split true o = refl
        split false o = refl

    there : tied K x.1 ≡ false → set_at (values_of (set_value (is_at (stored_cmp k)) es w)) q ≡ cond (eq_by_cmp key_cmp q K) (with_records records (set_at (values_of es) q)) (set_at (values_of es) q)
        → (b : Bool) → tied q x.1 ≡ b
        → cond b (Some x.1) (set_at (values_of (set_value (is_at (stored_cmp k)) es w)) q) ≡ cond (eq_by_cmp key_cmp q K) (with_records records (cond b (Some x.1) (set_at (values_of es) q))) (cond b (Some x.1) (set_at (values_of es) q))
    there other more true at =
        let apart : eq_by_cmp key_cmp q K ≡ false =
        ap (λ (p : Key). eq_by_cmp key_cmp p K) (sym (tied_key q (set_key x.1) at)) ∙ (eq_by_cmp_equiv key_total).symm (set_key x.1) K ∙ other in
        sym (ap (λ c. cond c (with_records records (Some x.1)) (Some x.1)) apart)
    there other more false at = more

    by : (b : Bool) → is_at (stored_cmp k) x.0 ≡ b → cond b (Some x.1) (lookup (is_at (stored_cmp k)) es) ≡ Some old
        → (lookup (is_at (stored_cmp k)) es ≡ Some old → w ≡ record old { records = records } → set_at (values_of (set_value (is_at (stored_cmp k)) es w)) q ≡ cond (eq_by_cmp key_cmp q K) (with_records records (set_at (values_of es) q)) (set_at (values_of es) q))
        → set_at (values_of (cond b ((x.0, w) ∷ es) (x ∷ set_value (is_at (stored_cmp k)) es w))) q ≡ cond (eq_by_cmp key_cmp q K) (with_records records (cond (tied q x.1) (Some x.1) (set_at (values_of es) q))) (cond (tied q x.1) (Some x.1) (set_at (values_of es) q))
    by true at first more = here (sym tie ∙ at) first (eq_by_cmp key_cmp q K) refl
    by false at first more = there (sym tie ∙ at) (more first is) (tied q x.1) refl

pub keys_of_value : (es : Entries) (p : Stored → Bool) (old w : RecordSetValue) → HaveTheirKeys es → lookup p es ≡ Some old → set_place w ≡ set_place old → HaveTheirKeys (set_value p es w)
keys_of_value [] p old w all had same = tt
keys_of_value (x ∷ es) p old w all had same = by (p x.0) had (keys_of_value es p old w all.1)
  where
    by : (b : Bool) → cond b (Some x.1) (lookup p es) ≡ Some old → (lookup p es ≡ Some old → set_place w ≡ set_place old → HaveTheirKeys (set_value p es w)) → HaveTheirKeys (cond b ((x.0, w) ∷ es) (x ∷ set_value p es w))
    by true first more =
        let old_is : x.1 ≡ old = cc in
        (all.0 ∙ ap set_place old_is ∙ sym same, all.1)
    by false first more = (all.0, more first same)

-- no set is at the key
pub none_written : (records : List Record) (sets : List RecordSetValue) (k q : Key) → set_at sets k ≡ None → set_at sets q ≡ cond (eq_by_cmp key_cmp q k) (with_records records (set_at sets q)) (set_at sets q)
none_written records sets k q none = by (eq_by_cmp key_cmp q k) refl
  where
    by : (b : Bool) → eq_by_cmp key_cmp q k ≡ b → set_at sets q ≡ cond b (with_records records (set_at sets q)) (set_at sets q)
    by true t =
        let here : set_at sets q ≡ None = ap (set_at sets) (same_key q k t) ∙ none in
        here ∙ sym (ap (with_records records) here)
    by false t = refl

-- ---- reserving

abbrev is_full : ChangedSet → Bool
is_full c = not (length c.records == 0)

found_or : (a b : Bool) (c : ChangedSet) (f : Option ChangedSet) (o : Option RecordSetValue) → or_reserved (cond (a && b) (Some c) f) o ≡ or_reserved f (cond a (or_reserved (cond b (Some c) None) o) o)
found_or true true c f None = refl
found_or true true c f (Some s) = refl
found_or true false c f None = refl
found_or true false c f (Some s) = refl
found_or false b c f o = refl

pub reserve_more : (c : ChangedSet) (more : List ChangedSet) (k : Key) (o : Option RecordSetValue) → reserved_at (c ∷ more) k o ≡ reserved_at more k (cond (is_full c) (one_reserved c k o) o)
reserve_more c more k o = found_or (is_full c) (has_key k c) c (list.find (is_reserved k) more) o

-- a set that was reserved is released again
reserved_released : (a b : Bool) (c : ChangedSet) (o : Option RecordSetValue) → (b ≡ true → a ≡ true) → cond (a && is_empty_set (or_reserved (cond b (Some c) None) o)) None (or_reserved (cond b (Some c) None) o) ≡ cond (a && is_empty_set o) None o
reserved_released true true c None h = refl
reserved_released true false c None h = refl
reserved_released false true c None h = absurd (true_false (sym (h refl)))
  where
    true_false : true ≡ false → ⊥
    true_false e = cc
reserved_released false false c None h = refl
reserved_released a b c (Some s) h = refl

among : (changed : List ChangedSet) (i : ℕ) (x : ChangedSet) (k : Key) → i < length changed → x ≡ get_or changed i x → has_key k x ≡ true → list_any (eq_by_cmp key_cmp k) (changed_keys changed) ≡ true
among [] i x k h is e = absurd (omega (arith, h))
among (y ∷ ys) zero x k h is e = ap (λ (c : ChangedSet). has_key k c || list_any (eq_by_cmp key_cmp k) (changed_keys ys)) (sym is) ∙ ap (λ b. b || list_any (eq_by_cmp key_cmp k) (changed_keys ys)) e
among (y ∷ ys) (suc i) x k h is e = ap (λ b. has_key k y || b) (among ys i x k (omega (arith, h)) is e) ∙ or_true (has_key k y)
  where
    or_true : (b : Bool) → (b || true) ≡ true
    or_true true = refl
    or_true false = refl

pub release_reserved : (changed : List ChangedSet) (i : ℕ) (x : ChangedSet) (k : Key) (o : Option RecordSetValue) → i < length changed → x ≡ get_or changed i x
    → released_at (changed_keys changed) k (one_reserved x k o) ≡ released_at (changed_keys changed) k o
release_reserved changed i x k o h is = reserved_released (list_any (eq_by_cmp key_cmp k) (changed_keys changed)) (has_key k x) x o (among changed i x k h is)

-- one set: it stands, or is inserted
pub stands : (c : ChangedSet) (sets : List RecordSetValue) (k : Key) → is_some (set_at sets (changed_key c)) ≡ true → set_at sets k ≡ one_reserved c k (set_at sets k)
stands c sets k there = by (has_key k c) refl (set_at sets k) refl
  where
    by : (b : Bool) → has_key k c ≡ b → (o : Option RecordSetValue) → set_at sets k ≡ o → o ≡ or_reserved (cond b (Some c) None) o
    by b t (Some x) e = refl
    by true t None e =
        absurd (no (sym there ∙ ap is_some (ap (set_at sets) (sym (same_key k (changed_key c) t)) ∙ e)))
      where
        no : true ≡ is_some {T = RecordSetValue} None → ⊥
        no f = cc
    by false t None e = refl

pub inserted : (c : ChangedSet) (old new : List RecordSetValue) (s : RecordSetValue) (k : Key) → ((number : ℕ) → type_number (type_of number) ≡ number) → s ≡ reserved_set c → is_some (set_at old (changed_key c)) ≡ false
    → set_at new k ≡ cond (tied k s) (Some s) (set_at old k) → set_at new k ≡ one_reserved c k (set_at old k)
inserted c old new s k round is none e =
    e ∙ (λ i. cond (tied k (is i)) (Some (is i)) (set_at old k))
    ∙ ap (λ (p : Key). cond (eq_by_cmp key_cmp k p) (Some (reserved_set c)) (set_at old k)) (λ i. ((changed_key c).0, round (type_number c.record_type) i))
    ∙ by (has_key k c) refl (set_at old k) refl
  where
    by : (b : Bool) → has_key k c ≡ b → (o : Option RecordSetValue) → set_at old k ≡ o → cond b (Some (reserved_set c)) o ≡ or_reserved (cond b (Some c) None) o
    by true t None f = refl
    by true t (Some x) f =
        absurd (no (sym none ∙ ap is_some (ap (set_at old) (sym (same_key k (changed_key c) t)) ∙ f)))
      where
        no : false ≡ is_some {T = RecordSetValue} (Some x) → ⊥
        no g = cc
    by false t None f = refl
    by false t (Some x) f = refl

-- ---- storing

stored_twice : (b : Bool) (c : ChangedSet) (f : Option ChangedSet) (o : Option RecordSetValue) → or_stored (cond b (Some c) f) o ≡ or_stored (cond b (Some c) None) (or_stored f o)
stored_twice true c None o = refl
stored_twice true c (Some d) None = refl
stored_twice true c (Some d) (Some s) = refl
stored_twice false c f o = refl

pub store_more : (c : ChangedSet) (more : List ChangedSet) (k : Key) (o : Option RecordSetValue) → stored_at (c ∷ more) k o ≡ one_stored c k (stored_at more k o)
store_more c more k o = stored_twice (has_key k c) c (list.find (has_key k) more) o

-- ---- releasing

released_twice : (a b : Bool) (o : Option RecordSetValue) → cond ((a || b) && is_empty_set o) None o ≡ cond (b && is_empty_set (cond ((a || false) && is_empty_set o) None o)) None (cond ((a || false) && is_empty_set o) None o)
released_twice true true None = refl
released_twice true false None = refl
released_twice false true None = refl
released_twice false false None = refl
released_twice a b (Some s) = by (length s.records == 0) refl a b
  where
    by : (e : Bool) → (length s.records == 0) ≡ e → (a b : Bool) → cond ((a || b) && e) None (Some s) ≡ cond (b && is_empty_set (cond ((a || false) && e) None (Some s))) None (cond ((a || false) && e) None (Some s))
    by true t true true = refl
    by true t true false = refl
    by true t false true = sym (ap (λ (x : Bool). cond x None (Some s)) t)
    by true t false false = refl
    by false t true true = sym (ap (λ (x : Bool). cond x None (Some s)) t)
    by false t true false = refl
    by false t false true = sym (ap (λ (x : Bool). cond x None (Some s)) t)
    by false t false false = refl

pub release_more : (q : Key) (qs : List Key) (k : Key) (o : Option RecordSetValue) → released_at (q ∷ qs) k o ≡ released_at qs k (released_at (q ∷ []) k o)
release_more q qs k o = released_twice (eq_by_cmp key_cmp k q) (list_any (eq_by_cmp key_cmp k) qs) o

none_kept : (a : Bool) → cond {A = Option RecordSetValue} (a && false) None None ≡ None
none_kept true = refl
none_kept false = refl

-- a zone without empty sets has none that is released
pub none_released : (sets : List RecordSetValue) (keys : List Key) (k : Key) → HasNoEmptySet (rows_of_sets sets) → released_at keys k (set_at sets k) ≡ set_at sets k
unfolding rows_if
none_released sets keys k full = by (set_at sets k) (λ e. full k (get-sets sets k ∙ e))
  where
    empty : (records : List Record) → (length records == 0) ≡ true → rows_of records ≡ []
    empty [] e = refl
    empty (r ∷ rs) e = absurd (no e)
      where
        no : (suc (length rs) == 0) ≡ true → ⊥
        no f = grind (arith, nat_tests, f)

    by : (o : Option RecordSetValue) → (rows_if o ≡ Some [] → ⊥) → cond (list_any (eq_by_cmp key_cmp k) keys && is_empty_set o) None o ≡ o
    by None h = none_kept (list_any (eq_by_cmp key_cmp k) keys)
    by (Some s) h = at (list_any (eq_by_cmp key_cmp k) keys) (length s.records == 0) refl
      where
        at : (a b : Bool) → (length s.records == 0) ≡ b → cond (a && b) None (Some s) ≡ Some s
        at true true t = absurd (h (ap Some (empty s.records t)))
        at true false t = refl
        at false b t = refl

-- ---- all steps

find_any : (k : Key) (changed : List ChangedSet) → list_any (eq_by_cmp key_cmp k) (changed_keys changed) ≡ is_some (list.find (has_key k) changed)
find_any k [] = refl
find_any k (c ∷ cs) = by (has_key k c) (find_any k cs)
  where
    by : (b : Bool) → list_any (eq_by_cmp key_cmp k) (changed_keys cs) ≡ is_some (list.find (has_key k) cs) → (b || list_any (eq_by_cmp key_cmp k) (changed_keys cs)) ≡ is_some (cond b (Some c) (list.find (has_key k) cs))
    by true more = refl
    by false more = more

none_reserved : (k : Key) (changed : List ChangedSet) → list.find (has_key k) changed ≡ None → list.find (is_reserved k) changed ≡ None
none_reserved k [] e = refl
none_reserved k (c ∷ cs) e = by (has_key k c) (is_full c) e (none_reserved k cs)
  where
    by : (b f : Bool) → cond b (Some c) (list.find (has_key k) cs) ≡ None → (list.find (has_key k) cs ≡ None → list.find (is_reserved k) cs ≡ None) → cond (f && b) (Some c) (list.find (is_reserved k) cs) ≡ None
    by true f h more = absurd (cc)
    by false true h more = more h
    by false false h more = more h

some_reserved : (k : Key) (changed : List ChangedSet) (x : ChangedSet) → list.find (has_key k) changed ≡ Some x → is_full x ≡ true → is_some (list.find (is_reserved k) changed) ≡ true
some_reserved k [] x e full = absurd (cc)
some_reserved k (c ∷ cs) x e full = by (has_key k c) (is_full c) refl e (some_reserved k cs x)
  where
    by : (b f : Bool) → is_full c ≡ f → cond b (Some c) (list.find (has_key k) cs) ≡ Some x → (list.find (has_key k) cs ≡ Some x → is_full x ≡ true → is_some (list.find (is_reserved k) cs) ≡ true)
        → is_some (cond (f && b) (Some c) (list.find (is_reserved k) cs)) ≡ true
    by true true t h more = refl
    by true false t h more =
        let same : c ≡ x = cc in
        absurd (no (sym t ∙ ap is_full same ∙ full))
      where
        no : false ≡ true → ⊥
        no e = cc
    by false true t h more = more h full
    by false false t h more = more h full

full_rows : (records : List Record) → not (length records == 0) ≡ true → Some (rows_of records) ≡ filled (rows_of records)
full_rows [] e = absurd (cc)
full_rows (r ∷ rs) e = sym (filled_more (row_of r) (rows_of rs))

no_rows : (records : List Record) → not (length records == 0) ≡ false → filled (rows_of records) ≡ None
no_rows [] e = filled_empty
no_rows (r ∷ rs) e = absurd (no e)
  where
    no : not (suc (length rs) == 0) ≡ false → ⊥
    no f = grind (arith, nat_tests, f)

module _ (changed : List ChangedSet) (k : Key) where
  with_changed : (x : ChangedSet) (o : Option RecordSetValue) → list.find (has_key k) changed ≡ Some x → (f : Bool) → is_full x ≡ f
      → rows_if (cond (true && is_empty_set (or_stored (Some x) (reserved_at changed k o))) None (or_stored (Some x) (reserved_at changed k o))) ≡ filled (rows_of x.records)
  unfolding rows_if
  with_changed x o e true full = by (list.find (is_reserved k) changed) o (some_reserved k changed x e full)
    where
      shown : (s : RecordSetValue) → rows_if (cond (length x.records == 0) None (Some (record s { records = x.records }))) ≡ filled (rows_of x.records)
      shown s = ap (λ b. rows_if (cond b None (Some (record s { records = x.records })))) (not_full (length x.records == 0) full) ∙ full_rows x.records full
        where
          not_full : (b : Bool) → not b ≡ true → b ≡ false
          not_full true h = absurd (cc)
          not_full false h = refl

      by : (g : Option ChangedSet) (o : Option RecordSetValue) → is_some g ≡ true → rows_if (cond (true && is_empty_set (or_stored (Some x) (or_reserved g o))) None (or_stored (Some x) (or_reserved g o))) ≡ filled (rows_of x.records)
      by None o h = absurd (cc)
      by (Some d) None h = shown (reserved_set d)
      by (Some d) (Some s) h = shown s
  with_changed x o e false full = by (reserved_at changed k o)
    where
      empty : (length x.records == 0) ≡ true
      empty = is_empty (length x.records == 0) full
        where
          is_empty : (b : Bool) → not b ≡ false → b ≡ true
          is_empty true h = refl
          is_empty false h = absurd (cc)

      by : (p : Option RecordSetValue) → rows_if (cond (true && is_empty_set (or_stored (Some x) p)) None (or_stored (Some x) p)) ≡ filled (rows_of x.records)
      by None = sym (no_rows x.records full)
      by (Some s) = ap (λ b. rows_if (cond b None (Some (record s { records = x.records })))) empty ∙ sym (no_rows x.records full)

  pub rows_changed : (o : Option RecordSetValue) → rows_if (changed_at changed k o) ≡ changed_or (list.find (has_key k) changed) (rows_if o)
  unfolding rows_if changed_or
  rows_changed o = by (list.find (has_key k) changed) refl
    where
      by : (f : Option ChangedSet) → list.find (has_key k) changed ≡ f → rows_if (changed_at changed k o) ≡ changed_or f (rows_if o)
      by None e =
          (λ i. rows_if (cond ((find_any k changed ∙ ap is_some e) i && is_empty_set (or_stored (e i) (reserved_at changed k o))) None (or_stored (e i) (reserved_at changed k o))))
          ∙ ap (λ g. rows_if (or_reserved g o)) (none_reserved k changed e) ∙ same o
        where
          same : (o : Option RecordSetValue) → rows_if (or_reserved None o) ≡ rows_if o
          same None = refl
          same (Some s) = refl
      by (Some x) e =
          (λ i. rows_if (cond ((find_any k changed ∙ ap is_some e) i && is_empty_set (or_stored (e i) (reserved_at changed k o))) None (or_stored (e i) (reserved_at changed k o))))
          ∙ with_changed x o e (is_full x) refl

  pub plain_changed : ((number : ℕ) → type_number (type_of number) ≡ number) → (o : Option RecordSetValue) → IfSome o IsPlainSet → IfSome (changed_at changed k o) IsPlainSet
  plain_changed round o plain = released (list_any (eq_by_cmp key_cmp k) (changed_keys changed)) (stored_at changed k (reserved_at changed k o)) (stored (list.find (has_key k) changed) (reserved_at changed k o) (reserved (list.find (is_reserved k) changed) o plain))
    where
      reserved : (g : Option ChangedSet) (o : Option RecordSetValue) → IfSome o IsPlainSet → IfSome (or_reserved g o) IsPlainSet
      reserved g (Some s) h = h
      reserved None None h = tt
      reserved (Some c) None h = record { fqdn = refl; internet = refl; type_named = ap type_of (round (type_number c.record_type)) }

      stored : (f : Option ChangedSet) (o : Option RecordSetValue) → IfSome o IsPlainSet → IfSome (or_stored f o) IsPlainSet
      stored None o h = h
      stored (Some c) None h = tt
      stored (Some c) (Some s) h = record { fqdn = h.fqdn; internet = h.internet; type_named = h.type_named }

      released : (a : Bool) (o : Option RecordSetValue) → IfSome o IsPlainSet → IfSome (cond (a && is_empty_set o) None o) IsPlainSet
      released a None h = subst (λ (o : Option RecordSetValue). IfSome o IsPlainSet) (sym (none_kept a)) tt
      released a (Some s) h = elim (a && (length s.records == 0)) as (λ b. IfSome (cond b None (Some s)) IsPlainSet) [ true ↦ tt | false ↦ h ]

-- the rows are those of the changed sets, and else those of before
pub overlaid : (old new : List RecordSetValue) (changed : List ChangedSet) → ((k : Key) → set_at new k ≡ changed_at changed k (set_at old k)) → rows_of_sets new ≡ overlay (rows_of_sets old) changed
overlaid old new changed steps = rows_map.same_map key_total key_antisymmetric _ _ (λ k.
    get-sets new k ∙ ap rows_if (steps k) ∙ rows_changed changed k (set_at old k)
    ∙ ap (changed_or (list.find (has_key k) changed)) (sym (get-sets old k)) ∙ sym (get-overlay (rows_of_sets old) changed k))

-- ---- turns of loops

module _ (changed : List ChangedSet) (i : ℕ) (x : ChangedSet) (k : Key) (inside : i < length changed) (is : x ≡ get_or changed i x) where
  pub release_step : (o new whole : Option RecordSetValue) → new ≡ released_at (changed_key x ∷ []) k o → released_at (changed_keys (drop i changed)) k o ≡ whole
      → released_at (changed_keys (drop (i + 1) changed)) k new ≡ whole
  release_step o new whole e so_far =
      ap (released_at (changed_keys (drop (i + 1) changed)) k) e ∙ sym (release_more (changed_key x) (changed_keys (drop (i + 1) changed)) k o)
      ∙ ap (λ (cs : List ChangedSet). released_at (changed_keys cs) k o) (sym (drop_at changed i x inside is)) ∙ so_far

  pub reserve_step : (o new whole : Option RecordSetValue) → new ≡ cond (is_full x) (one_reserved x k o) o → reserved_at (drop i changed) k o ≡ whole
      → reserved_at (drop (i + 1) changed) k new ≡ whole
  reserve_step o new whole e so_far =
      ap (reserved_at (drop (i + 1) changed) k) e ∙ sym (reserve_more x (drop (i + 1) changed) k o)
      ∙ ap (λ (cs : List ChangedSet). reserved_at cs k o) (sym (drop_at changed i x inside is)) ∙ so_far

  pub store_step : (o now new : Option RecordSetValue) → now ≡ stored_at (drop (i + 1) changed) k o → new ≡ one_stored x k now → new ≡ stored_at (drop i changed) k o
  store_step o now new so_far e =
      e ∙ ap (one_stored x k) so_far ∙ sym (store_more x (drop (i + 1) changed) k o)
      ∙ ap (λ (cs : List ChangedSet). stored_at cs k o) (sym (drop_at changed i x inside is))

-- an item that is written

pub taken_item : (xs ys : List ChangedSet) (i : ℕ) (x : ChangedSet) → take (suc i) xs ≡ take (suc i) ys → i < length xs → x ≡ get_or xs i x → x ≡ get_or ys i x
taken_item [] ys i x same h is = absurd (omega (arith, h))
taken_item (y ∷ xs) [] i x same h is = absurd (cc)
taken_item (y ∷ xs) (z ∷ ys) zero x same h is =
    let heads : y ≡ z = cc in
    is ∙ heads
taken_item (y ∷ xs) (z ∷ ys) (suc i) x same h is =
    let rest : take (suc i) xs ≡ take (suc i) ys = cc in
    taken_item xs ys i x rest (omega (arith, h)) is

pub taken_before : (xs ys : List ChangedSet) (i : ℕ) (y : ChangedSet) → take (suc i) xs ≡ take (suc i) ys → take i (set xs i y) ≡ take i ys
taken_before xs ys zero y same = refl
taken_before [] [] (suc i) y same = refl
taken_before [] (z ∷ ys) (suc i) y same = absurd (cc)
taken_before (x ∷ xs) [] (suc i) y same = absurd (cc)
taken_before (x ∷ xs) (z ∷ ys) (suc i) y same =
    let heads : x ≡ z = cc in
    let rest : take (suc i) xs ≡ take (suc i) ys = cc in
    λ j. heads j ∷ taken_before xs ys i y rest j

pub keys_written : (xs : List ChangedSet) (i : ℕ) (x y : ChangedSet) → x ≡ get_or xs i x → changed_key y ≡ changed_key x → changed_keys (set xs i y) ≡ changed_keys xs
keys_written [] i x y is same = refl
keys_written (z ∷ xs) zero x y is same = ap (λ (k : Key). k ∷ changed_keys xs) (same ∙ ap changed_key is)
keys_written (z ∷ xs) (suc i) x y is same = ap (λ (ks : List Key). changed_key z ∷ ks) (keys_written xs i x y is same)

pub len_written : (xs : List ChangedSet) (i : ℕ) (y : ChangedSet) → length (set xs i y) ≡ length xs
len_written [] i y = refl
len_written (x ∷ xs) zero y = refl
len_written (x ∷ xs) (suc i) y = ap suc (len_written xs i y)

-- ---- one set that is released, or stays

pub removed_one : (c : ChangedSet) (old new : List RecordSetValue) (s : RecordSetValue) → Some s ≡ set_at old (changed_key c) → (length s.records == 0) ≡ true
    → ((k : Key) → set_at new k ≡ cond (eq_by_cmp key_cmp k (changed_key c)) None (set_at old k)) → (k : Key) → set_at new k ≡ released_at (changed_key c ∷ []) k (set_at old k)
removed_one c old new s there empty removed k = removed k ∙ by (eq_by_cmp key_cmp k (changed_key c)) refl (set_at old k) refl
  where
    by : (b : Bool) → eq_by_cmp key_cmp k (changed_key c) ≡ b → (o : Option RecordSetValue) → set_at old k ≡ o → cond b None o ≡ cond ((b || false) && is_empty_set o) None o
    by true t o e =
        let here : o ≡ Some s = sym e ∙ ap (set_at old) (same_key k (changed_key c) t) ∙ sym there in
        sym (ap (λ b. cond b None o) (ap is_empty_set here ∙ empty))
    by false t o e = refl

pub kept_one : (c : ChangedSet) (sets : List RecordSetValue) → is_empty_set (set_at sets (changed_key c)) ≡ false → (k : Key) → set_at sets k ≡ released_at (changed_key c ∷ []) k (set_at sets k)
kept_one c sets full k = by (eq_by_cmp key_cmp k (changed_key c)) refl (set_at sets k) refl
  where
    by : (b : Bool) → eq_by_cmp key_cmp k (changed_key c) ≡ b → (o : Option RecordSetValue) → set_at sets k ≡ o → o ≡ cond ((b || false) && is_empty_set o) None o
    by true t o e =
        let some : is_empty_set o ≡ false = ap is_empty_set (sym e ∙ ap (set_at sets) (same_key k (changed_key c) t)) ∙ full in
        sym (ap (λ b. cond b None o) some)
    by false t o e = refl

-- ---- a turn that reserves

pub full_turn : (x : ChangedSet) (k : Key) (b : Bool) (o new : Option RecordSetValue) → b ≡ (length x.records == 0) → b ≡ false → new ≡ one_reserved x k o → new ≡ cond (is_full x) (one_reserved x k o) o
full_turn x k b o new is fails e = e ∙ sym (ap (λ c. cond (not c) (one_reserved x k o) o) (sym is ∙ fails))

pub empty_turn : (x : ChangedSet) (k : Key) (b : Bool) (o new : Option RecordSetValue) → b ≡ (length x.records == 0) → b ≡ true → new ≡ o → new ≡ cond (is_full x) (one_reserved x k o) o
empty_turn x k b o new is holds e = e ∙ sym (ap (λ c. cond (not c) (one_reserved x k o) o) (sym is ∙ holds))
