-- Changed sets in place of those of a zone: looking them up, writing them, and the types of a name.
use Rattle.std.proofs.Common.{◌≡◌, ◌==◌, ℕ, Bool, true, false, cond, not, ◌&&◌, ◌||◌, List, [], ◌∷◌, map, refl, sym, ap, ◌∙◌, subst, length, suc, arith, Option, Some, None, unwrap_or, option_map, is_some, slice_get}
use Rattle.std.proofs.lemmas.Bool.Decides.{nat_tests}
use Rattle.std.specs.List.{filter, fold, list_any}
use Rattle.std.specs.List as list
use Rattle.std.specs.Ordering.{eq_by_cmp}
use Rattle.std.specs.FinMap as rows_map
use Rattle.dns_wire.specs.codes.RecordType.{type_number}
use Rattle.dns_wire.specs.declared.codes.record_type.RecordType.{RecordType}
use Rattle.dns_names.specs.Name.{DomainName}
use Rattle.dns_names.specs.Compare.{lower, same_labels}
use Rattle.dns_data.specs.declared.rdata.RData.{RData}
use Rattle.dns_data.specs.rdata.{same_data}
use Rattle.dns_records.specs.declared.row.Row.{Row}
use Rattle.dns_records.specs.Record.{Record}
use Rattle.dns_records.specs.RecordSet.{RecordSetValue}
use Rattle.dns_records.specs.Rows.{Key, Rows, key, key_cmp, row_of, rows_of, rows_at, with_set}
use Rattle.dns_updates.specs.declared.changes.changed_set.ChangedSet.{ChangedSet}
use Rattle.dns_updates.specs.Records.{has_set, has_rows_but}
use Rattle.dns_updates.specs.Change.{is_kept_set, succeeds_soa, without_data, without_name, without_set}
use Rattle.dns_updates.specs.Sets.{AreTypesAt, is_key_among, rows_of_sets}
use Rattle.dns_updates.specs.Changes.{changed_at, changed_key, is_other_set, overlay}
use Rattle.dns_updates.specs.internal.First.{succeeds_first}
use Rattle.dns_updates.specs.internal.Indexes.{with_records, KeepsName}
use Rattle.dns_updates.proofs.Walks.{any_alike}
use Rattle.dns_updates.proofs.SetLaws.{any_set, keys_tie, same_lower}
use Rattle.dns_updates.proofs.UpdateLaws.Codes.{and_both, number_itself}
use Rattle.dns_updates.proofs.UpdateLaws.Kept.{any_weaker}
use Rattle.dns_updates.proofs.UpdateLaws.Maps.{key_total, key_antisymmetric, same_key, same_rows, tied_itself, filled, filled_empty, filled_more, get_with_set, unwrap_filled}

true_false : true ≡ false → ⊥
true_false e = cc

-- ---- edits of records

pub rows_without : (d : RData) (xs : List Record) → rows_of (filter (λ (x : Record). not (same_data x.rdata d)) xs) ≡ without_data (rows_of xs) d
rows_without d [] = refl
rows_without d (x ∷ xs) = by (rows_without d xs) (same_data x.rdata d)
  where
    by : rows_of (filter (λ (y : Record). not (same_data y.rdata d)) xs) ≡ without_data (rows_of xs) d → (b : Bool)
        → rows_of (cond (not b) (x ∷ filter (λ (y : Record). not (same_data y.rdata d)) xs) (filter (λ (y : Record). not (same_data y.rdata d)) xs)) ≡ cond (not b) (row_of x ∷ without_data (rows_of xs) d) (without_data (rows_of xs) d)
    by more true = more
    by more false = ap (λ rows. row_of x ∷ rows) more

pub first_row : (xs : List Record) → option_map row_of (slice_get xs 0) ≡ slice_get (rows_of xs) 0
first_row [] = refl
first_row (x ∷ xs) = refl

pub row_count : (xs : List Record) → length xs ≡ length (rows_of xs)
row_count [] = refl
row_count (x ∷ xs) = ap suc (row_count xs)

pub first_succeeds : (rows : List Row) (r : Record) → succeeds_first (slice_get rows 0) r ≡ succeeds_soa rows r
first_succeeds [] r = refl
first_succeeds (row ∷ rows) r = refl

-- ---- looking a changed set up

abbrev pub tied : Key → ChangedSet → Bool
tied q s = eq_by_cmp key_cmp q (changed_key s)

unfoldable pub changed_or : Option ChangedSet → Option (List Row) → Option (List Row)
changed_or None o = o
changed_or (Some s) o = filled (rows_of s.records)

pick : (y : ChangedSet) (f : Option ChangedSet) (g : Option (List Row)) (b : Bool) → changed_or (cond b (Some y) f) g ≡ cond b (filled (rows_of y.records)) (changed_or f g)
unfolding changed_or
pick y f g true = refl
pick y f g false = refl

pub get-overlay : (rows : Rows) (sets : List ChangedSet) (q : Key) → rows_map.get (overlay rows sets) q ≡ changed_or (list.find (tied q) sets) (rows_map.get rows q)
unfolding changed_or
get-overlay rows [] q = refl
get-overlay rows (s ∷ ss) q =
    get_with_set (overlay rows ss) (changed_key s) (rows_of s.records) q
    ∙ ap (cond (tied q s) (filled (rows_of s.records))) (get-overlay rows ss q)
    ∙ sym (pick s (list.find (tied q) ss) (rows_map.get rows q) (tied q s))

pub get_found : (rows : Rows) (sets : List ChangedSet) (k : Key) (x : ChangedSet) → changed_at sets k ≡ Some x → rows_map.get (overlay rows sets) k ≡ filled (rows_of x.records)
unfolding changed_or
get_found rows sets k x is = get-overlay rows sets k ∙ ap (λ o. changed_or o (rows_map.get rows k)) is

pub get_below : (rows : Rows) (sets : List ChangedSet) (k : Key) → changed_at sets k ≡ None → rows_map.get (overlay rows sets) k ≡ rows_map.get rows k
unfolding changed_or
get_below rows sets k none = get-overlay rows sets k ∙ ap (λ o. changed_or o (rows_map.get rows k)) none

pub rows_found : (rows : Rows) (sets : List ChangedSet) (owner : List (List ℕ)) (t : RecordType) (x : ChangedSet) → changed_at sets (key owner t) ≡ Some x
    → rows_at (overlay rows sets) owner t ≡ rows_of x.records
rows_found rows sets owner t x is = ap (λ o. unwrap_or o []) (get_found rows sets (key owner t) x is) ∙ unwrap_filled (rows_of x.records)

pub rows_replaced : (rows : Rows) (sets : List ChangedSet) (owner : List (List ℕ)) (t : RecordType) (records : List Record) → option_map (λ (s : ChangedSet). s.records) (changed_at sets (key owner t)) ≡ Some records
    → rows_at (overlay rows sets) owner t ≡ rows_of records
rows_replaced rows sets owner t records is = by (changed_at sets (key owner t)) refl is
  where
    by : (o : Option ChangedSet) → changed_at sets (key owner t) ≡ o → option_map (λ (s : ChangedSet). s.records) o ≡ Some records → rows_at (overlay rows sets) owner t ≡ rows_of records
    by None e f = absurd (cc)
    by (Some s) e f = rows_found rows sets owner t s e ∙ ap (λ o. rows_of (unwrap_or o [])) f

pub rows_below : (rows : Rows) (sets : List ChangedSet) (owner : List (List ℕ)) (t : RecordType) → changed_at sets (key owner t) ≡ None
    → rows_at (overlay rows sets) owner t ≡ rows_at rows owner t
rows_below rows sets owner t none = ap (λ o. unwrap_or o []) (get_below rows sets (key owner t) none)

suc_not : (n : ℕ) → (suc n == 0) ≡ false
suc_not n = grind (arith, nat_tests)

some_filled : (rs : List Record) → is_some (filled (rows_of rs)) ≡ not (length rs == 0)
some_filled [] = ap is_some filled_empty
some_filled (r ∷ rs) = ap is_some (filled_more (row_of r) (rows_of rs)) ∙ sym (ap not (suc_not (length rs)))

pub has_found : (rows : Rows) (sets : List ChangedSet) (owner : DomainName) (t : RecordType) (x : ChangedSet) → changed_at sets (key owner.labels t) ≡ Some x
    → has_set (overlay rows sets) owner t ≡ not (length x.records == 0)
has_found rows sets owner t x is = ap is_some (get_found rows sets (key owner.labels t) x is) ∙ some_filled x.records

pub has_below : (rows : Rows) (sets : List ChangedSet) (owner : DomainName) (t : RecordType) → changed_at sets (key owner.labels t) ≡ None
    → has_set (overlay rows sets) owner t ≡ has_set rows owner t
has_below rows sets owner t none = ap is_some (get_below rows sets (key owner.labels t) none)

-- ---- writing a changed set

-- a changed set that is put at a key
pub written : (rows : Rows) (old new : List ChangedSet) (k : Key) (y : ChangedSet) → ((q : Key) → changed_at new q ≡ cond (eq_by_cmp key_cmp q k) (Some y) (changed_at old q))
    → overlay rows new ≡ with_set (overlay rows old) k (rows_of y.records)
written rows old new k y finds = same_rows _ _ (λ q.
    get-overlay rows new q
    ∙ ap (λ o. changed_or o (rows_map.get rows q)) (finds q)
    ∙ pick y (changed_at old q) (rows_map.get rows q) (eq_by_cmp key_cmp q k)
    ∙ ap (cond (eq_by_cmp key_cmp q k) (filled (rows_of y.records))) (sym (get-overlay rows old q))
    ∙ sym (get_with_set (overlay rows old) k (rows_of y.records) q))

-- other records in a changed set
pub rewritten : (rows : Rows) (old new : List ChangedSet) (k : Key) (records : List Record) → is_some (changed_at old k) ≡ true → ((q : Key) → changed_at new q ≡ cond (eq_by_cmp key_cmp q k) (with_records records (changed_at old q)) (changed_at old q))
    → overlay rows new ≡ with_set (overlay rows old) k (rows_of records)
unfolding changed_or
rewritten rows old new k records there finds = same_rows _ _ (λ q.
    get-overlay rows new q
    ∙ ap (λ o. changed_or o (rows_map.get rows q)) (finds q)
    ∙ by (eq_by_cmp key_cmp q k) q refl
    ∙ sym (get_with_set (overlay rows old) k (rows_of records) q))
  where
    held : (o : Option ChangedSet) (f : Option (List Row)) → is_some o ≡ true → changed_or (with_records records o) f ≡ filled (rows_of records)
    held None f e = absurd (true_false (sym e))
    held (Some s) f e = refl

    by : (b : Bool) (q : Key) → eq_by_cmp key_cmp q k ≡ b
        → changed_or (cond b (with_records records (changed_at old q)) (changed_at old q)) (rows_map.get rows q) ≡ cond b (filled (rows_of records)) (rows_map.get (overlay rows old) q)
    by true q t = held (changed_at old q) (rows_map.get rows q) (ap (λ (p : Key). is_some (changed_at old p)) (same_key q k t) ∙ there)
    by false q t = sym (get-overlay rows old q)

-- other records in a changed set, for others in their place
pub taken_out : (rows : Rows) (old new : List ChangedSet) (k : Key) (records : List Record) (s : List Row) → ((q : Key) → changed_at new q ≡ cond (eq_by_cmp key_cmp q k) (with_records records (changed_at old q)) (changed_at old q))
    → with_set (overlay rows new) k s ≡ with_set (overlay rows old) k s
unfolding changed_or
taken_out rows old new k records s finds = same_rows _ _ (λ q.
    get_with_set (overlay rows new) k s q
    ∙ by (eq_by_cmp key_cmp q k) q (finds q)
    ∙ sym (get_with_set (overlay rows old) k s q))
  where
    by : (b : Bool) (q : Key) → changed_at new q ≡ cond b (with_records records (changed_at old q)) (changed_at old q)
        → cond b (filled s) (rows_map.get (overlay rows new) q) ≡ cond b (filled s) (rows_map.get (overlay rows old) q)
    by true q e = refl
    by false q e = get-overlay rows new q ∙ ap (λ o. changed_or o (rows_map.get rows q)) e ∙ sym (get-overlay rows old q)

-- other records leave each changed set its name
pub name_kept : (old new : List ChangedSet) (k : Key) (records : List Record) → ((q : Key) → changed_at new q ≡ cond (eq_by_cmp key_cmp q k) (with_records records (changed_at old q)) (changed_at old q))
    → (q : Key) → KeepsName (changed_at old q) (changed_at new q)
name_kept old new k records finds q = subst (KeepsName (changed_at old q)) (sym (finds q)) (by (eq_by_cmp key_cmp q k) (changed_at old q))
  where
    by : (b : Bool) (o : Option ChangedSet) → KeepsName o (cond b (with_records records o) o)
    by true None = tt
    by false None = tt
    by true (Some s) = refl
    by false (Some s) = refl

-- so does a changed set that is new
pub name_beside : (old new : List ChangedSet) (k : Key) (y : ChangedSet) → is_some (changed_at old k) ≡ false → ((q : Key) → changed_at new q ≡ cond (eq_by_cmp key_cmp q k) (Some y) (changed_at old q))
    → (q : Key) → KeepsName (changed_at old q) (changed_at new q)
name_beside old new k y none finds q = subst (KeepsName (changed_at old q)) (sym (finds q)) (by (eq_by_cmp key_cmp q k) refl (changed_at old q) refl)
  where
    by : (b : Bool) → eq_by_cmp key_cmp q k ≡ b → (o : Option ChangedSet) → changed_at old q ≡ o → KeepsName o (cond b (Some y) o)
    by b t None e = tt
    by true t (Some s) e = absurd (true_false (sym (ap is_some e) ∙ ap (λ (p : Key). is_some (changed_at old p)) (same_key q k t) ∙ none))
    by false t (Some s) e = refl

-- ---- the types of a name

key_of_same : (a b : List (List ℕ)) (t : RecordType) → same_labels a b ≡ true → key a t ≡ key b t
key_of_same a b t e = same_key (key a t) (key b t) (sym (keys_tie a b t t) ∙ (λ i. e i && number_itself (type_number t) i))

pub same_itself : (a : List (List ℕ)) (t : RecordType) → same_labels a (lower a) ≡ true
same_itself a t = same_lower a a ∙ (and_both (same_labels a a) _ (keys_tie a a t t ∙ tied_itself (key a t))).0

or_true : (b : Bool) → (b || true) ≡ true
or_true true = refl
or_true false = refl

module _ {A : Type 0} (owner_of : A → List (List ℕ)) (type_of : A → RecordType) (owner : List (List ℕ)) (k : Key) (here : same_labels owner k.0 ≡ true) where
  types_found : (xs : List A) → list_any (λ x. eq_by_cmp key_cmp k (key (owner_of x) (type_of x))) xs ≡ true
      → is_key_among owner (map type_of (filter (λ x. same_labels owner (owner_of x)) xs)) k ≡ true
  types_found [] e = absurd (true_false (sym e))
  types_found (x ∷ xs) e = by (eq_by_cmp key_cmp k (key (owner_of x) (type_of x))) refl e (types_found xs)
    where
      by : (b : Bool) → eq_by_cmp key_cmp k (key (owner_of x) (type_of x)) ≡ b → (b || list_any (λ y. eq_by_cmp key_cmp k (key (owner_of y) (type_of y))) xs) ≡ true
          → (list_any (λ y. eq_by_cmp key_cmp k (key (owner_of y) (type_of y))) xs ≡ true → is_key_among owner (map type_of (filter (λ y. same_labels owner (owner_of y)) xs)) k ≡ true)
          → is_key_among owner (map type_of (cond (same_labels owner (owner_of x)) (x ∷ filter (λ y. same_labels owner (owner_of y)) xs) (filter (λ y. same_labels owner (owner_of y)) xs))) k ≡ true
      by true t f more =
          let keys : k ≡ key (owner_of x) (type_of x) = same_key k (key (owner_of x) (type_of x)) t in
          let owners : same_labels owner (owner_of x) ≡ true = sym (same_lower owner (owner_of x)) ∙ ap (λ (q : Key). same_labels owner q.0) (sym keys) ∙ here in
          let tie : eq_by_cmp key_cmp k (key owner (type_of x)) ≡ true = ap (eq_by_cmp key_cmp k) (key_of_same owner (owner_of x) (type_of x) owners) ∙ t in
          ap (λ b. is_key_among owner (map type_of (cond b (x ∷ filter (λ y. same_labels owner (owner_of y)) xs) (filter (λ y. same_labels owner (owner_of y)) xs))) k) owners
          ∙ ap (λ b. b || is_key_among owner (map type_of (filter (λ y. same_labels owner (owner_of y)) xs)) k) tie
      by false t f more =
          elim (same_labels owner (owner_of x)) as (λ b. is_key_among owner (map type_of (cond b (x ∷ filter (λ y. same_labels owner (owner_of y)) xs) (filter (λ y. same_labels owner (owner_of y)) xs))) k ≡ true) [
            | true ↦ ap (λ b. eq_by_cmp key_cmp k (key owner (type_of x)) || b) (more f) ∙ or_true (eq_by_cmp key_cmp k (key owner (type_of x)))
            | false ↦ more f
          ]

pub types_of_sets : (sets : List RecordSetValue) (owner : List (List ℕ))
    → AreTypesAt (rows_of_sets sets) owner (map (λ (s : RecordSetValue). s.record_type) (filter (λ (s : RecordSetValue). same_labels owner s.name.labels) sets))
types_of_sets sets owner k here some =
    types_found (λ (s : RecordSetValue). s.name.labels) (λ (s : RecordSetValue). s.record_type) owner k here sets
    (any_set (eq_by_cmp key_cmp k) sets ∙ sym (rows_map.contains_key-keys (rows_of_sets sets) k) ∙ some)

-- ---- rows of another type

exists_key : (p : Key → Bool) (ks : List Key) → list_any p ks ≡ true → (k : Key) × (p k ≡ true) × (list_any (eq_by_cmp key_cmp k) ks ≡ true)
exists_key p [] e = absurd (true_false (sym e))
exists_key p (x ∷ xs) e = by (p x) refl e (exists_key p xs)
  where
    by : (b : Bool) → p x ≡ b → (b || list_any p xs) ≡ true → (list_any p xs ≡ true → (k : Key) × (p k ≡ true) × (list_any (eq_by_cmp key_cmp k) xs ≡ true))
        → (k : Key) × (p k ≡ true) × (list_any (eq_by_cmp key_cmp k) (x ∷ xs) ≡ true)
    by true t f more = (x, t, ap (λ b. b || list_any (eq_by_cmp key_cmp x) xs) (tied_itself x))
    by false t f more = let m = more f in (m.0, m.1, ap (λ b. eq_by_cmp key_cmp m.0 x || b) m.2 ∙ or_true (eq_by_cmp key_cmp m.0 x))

none_any : {A : Type 0} (p : A → Bool) → ((x : A) → p x ≡ false) → (xs : List A) → list_any p xs ≡ false
none_any p h [] = refl
none_any p h (x ∷ xs) = λ i. h x i || none_any p h xs i

-- a type that is not among the others of a name
no_other : (rows : Rows) (owner : DomainName) (t u : RecordType) → has_rows_but rows owner t ≡ false → is_other_set rows owner t u ≡ false
no_other rows owner t u none = by (not (type_number t == type_number u)) refl
  where
    by : (b : Bool) → not (type_number t == type_number u) ≡ b → (b && has_set rows owner u) ≡ false
    by false e = refl
    by true e =
        rows_map.contains_key-keys rows (key owner.labels u)
        ∙ any_weaker (λ k. same_labels owner.labels k.0 && not (type_number t == k.1)) (eq_by_cmp key_cmp (key owner.labels u))
        (λ k tie. let keys : key owner.labels u ≡ k = same_key (key owner.labels u) k tie in
        ap (λ (q : Key). same_labels owner.labels q.0 && not (type_number t == q.1)) (sym keys) ∙ (λ i. same_itself owner.labels u i && e i))
        (rows_map.keys rows) none

-- a type that is among them
seen_other : (rows : Rows) (owner : DomainName) (t : RecordType) (found : List RecordType) → AreTypesAt rows owner.labels found
    → list_any (is_other_set rows owner t) found ≡ false → has_rows_but rows owner t ≡ true → ⊥
seen_other rows owner t found all none some =
    let e = exists_key (λ k. same_labels owner.labels k.0 && not (type_number t == k.1)) (rows_map.keys rows) some in
    let k : Key = e.0 in
    let both = and_both (same_labels owner.labels k.0) (not (type_number t == k.1)) e.1 in
    let there : rows_map.contains_key rows k ≡ true = rows_map.contains_key-keys rows k ∙ e.2 in
    let weaker : list_any (λ u. eq_by_cmp key_cmp k (key owner.labels u)) found ≡ false =
    any_weaker (is_other_set rows owner t) (λ u. eq_by_cmp key_cmp k (key owner.labels u))
    (λ u tie. let keys : k ≡ key owner.labels u = same_key k (key owner.labels u) tie in
    λ i. (ap (λ (q : Key). not (type_number t == q.1)) (sym keys) ∙ both.1) i && (ap (rows_map.contains_key rows) (sym keys) ∙ there) i)
    found none in
    true_false (sym (all k both.0 there) ∙ weaker)

pub others_found : (rows : Rows) (owner : DomainName) (t : RecordType) (found : List RecordType) → AreTypesAt rows owner.labels found
    → list_any (is_other_set rows owner t) found ≡ has_rows_but rows owner t
others_found rows owner t found all = by (list_any (is_other_set rows owner t) found) (has_rows_but rows owner t) refl refl
  where
    by : (a b : Bool) → list_any (is_other_set rows owner t) found ≡ a → has_rows_but rows owner t ≡ b → a ≡ b
    by true true e f = refl
    by false false e f = refl
    by true false e f = sym e ∙ none_any (is_other_set rows owner t) (λ u. no_other rows owner t u f) found
    by false true e f = absurd (seen_other rows owner t found all e f)

-- ---- deletions of a name, type by type

module _ (origin : DomainName) (owner : DomainName) (q : Key) where
  deletes : RecordType → Bool
  deletes t = eq_by_cmp key_cmp q (key owner.labels t) && not (is_kept_set origin owner (type_number t))

  get_without_set : (rows : Rows) (t : RecordType) → rows_map.get (without_set origin rows owner t) q ≡ cond (deletes t) None (rows_map.get rows q)
  unfolding deletes
  get_without_set rows t = by (is_kept_set origin owner (type_number t))
    where
      by : (b : Bool) → rows_map.get (cond b rows (rows_map.remove rows (key owner.labels t))) q ≡ cond (eq_by_cmp key_cmp q (key owner.labels t) && not b) None (rows_map.get rows q)
      by true = elim (eq_by_cmp key_cmp q (key owner.labels t)) as (λ c. rows_map.get rows q ≡ cond (c && false) None (rows_map.get rows q)) [ true ↦ refl | false ↦ refl ]
      by false = rows_map.get-remove key_total rows (key owner.labels t) q
          ∙ elim (eq_by_cmp key_cmp q (key owner.labels t)) as (λ c. cond c None (rows_map.get rows q) ≡ cond (c && true) None (rows_map.get rows q)) [ true ↦ refl | false ↦ refl ]

  then_none : (a b : Bool) (g : Option (List Row)) → cond a None (cond b None g) ≡ cond (b || a) None g
  then_none true true g = refl
  then_none true false g = refl
  then_none false true g = refl
  then_none false false g = refl

  get_without_types : (found : List RecordType) (rows : Rows)
      → rows_map.get (fold (λ (left : Rows) (t : RecordType). without_set origin left owner t) rows found) q ≡ cond (list_any deletes found) None (rows_map.get rows q)
  get_without_types [] rows = refl
  get_without_types (t ∷ ts) rows =
      get_without_types ts (without_set origin rows owner t)
      ∙ ap (cond (list_any deletes ts) None) (get_without_set rows t)
      ∙ then_none (list_any deletes ts) (deletes t) (rows_map.get rows q)

  any_and : (p : RecordType → Bool) (c : Bool) (ts : List RecordType) → list_any (λ t. p t && c) ts ≡ (list_any p ts && c)
  any_and p true [] = refl
  any_and p false [] = refl
  any_and p c (t ∷ ts) = ap (λ b. (p t && c) || b) (any_and p c ts) ∙ spread (p t) c (list_any p ts)
    where
      spread : (a c b : Bool) → ((a && c) || (b && c)) ≡ ((a || b) && c)
      spread true true b = refl
      spread true false true = refl
      spread true false false = refl
      spread false true b = refl
      spread false false b = refl

  -- of a key at the name
  deletes_there : (found : List RecordType) → is_key_among owner.labels found q ≡ true → list_any deletes found ≡ not (is_kept_set origin owner q.1)
  unfolding deletes
  deletes_there found among =
      any_alike deletes (λ t. eq_by_cmp key_cmp q (key owner.labels t) && not (is_kept_set origin owner q.1)) same found
      ∙ any_and (λ t. eq_by_cmp key_cmp q (key owner.labels t)) (not (is_kept_set origin owner q.1)) found
      ∙ ap (λ b. b && not (is_kept_set origin owner q.1)) among
    where
      same : (t : RecordType) → (eq_by_cmp key_cmp q (key owner.labels t) && not (is_kept_set origin owner (type_number t))) ≡ (eq_by_cmp key_cmp q (key owner.labels t) && not (is_kept_set origin owner q.1))
      same t = by (eq_by_cmp key_cmp q (key owner.labels t)) refl
        where
          by : (b : Bool) → eq_by_cmp key_cmp q (key owner.labels t) ≡ b → (b && not (is_kept_set origin owner (type_number t))) ≡ (b && not (is_kept_set origin owner q.1))
          by true e = ap (λ (k : Key). not (is_kept_set origin owner k.1)) (sym (same_key q (key owner.labels t) e))
          by false e = refl

  -- of a key elsewhere
  deletes_not : (found : List RecordType) → same_labels owner.labels q.0 ≡ false → list_any deletes found ≡ false
  unfolding deletes
  deletes_not found away = none_any deletes none found
    where
      none : (t : RecordType) → (eq_by_cmp key_cmp q (key owner.labels t) && not (is_kept_set origin owner (type_number t))) ≡ false
      none t = by (eq_by_cmp key_cmp q (key owner.labels t)) refl
        where
          by : (b : Bool) → eq_by_cmp key_cmp q (key owner.labels t) ≡ b → (b && not (is_kept_set origin owner (type_number t))) ≡ false
          by true e = absurd (true_false (sym (ap (λ (k : Key). same_labels owner.labels k.0) (same_key q (key owner.labels t) e) ∙ same_itself owner.labels t) ∙ away))
          by false e = refl

  none_both : (a c : Bool) (g : Option (List Row)) → g ≡ None → cond a None g ≡ cond c g None
  none_both true true g e = sym e
  none_both true false g e = refl
  none_both false true g e = refl
  none_both false false g e = e

  turned : (b : Bool) (g : Option (List Row)) → cond (not b) None g ≡ cond b g None
  turned true g = refl
  turned false g = refl

  get_without_name : (rows : Rows) (found : List RecordType) → AreTypesAt rows owner.labels found
      → rows_map.get (fold (λ (left : Rows) (t : RecordType). without_set origin left owner t) rows found) q ≡ rows_map.get (without_name origin rows owner) q
  get_without_name rows found all =
      get_without_types found rows
      ∙ by (rows_map.get rows q) refl (same_labels owner.labels q.0) refl
      ∙ sym (rows_map.get-retain_keys rows (λ k. not (same_labels owner.labels k.0) || is_kept_set origin owner k.1) q (λ x e. ap (λ (k : Key). not (same_labels owner.labels k.0) || is_kept_set origin owner k.1) (sym (key_antisymmetric q x e))))
    where
      by : (o : Option (List Row)) → rows_map.get rows q ≡ o → (b : Bool) → same_labels owner.labels q.0 ≡ b
          → cond (list_any deletes found) None (rows_map.get rows q) ≡ cond (not (same_labels owner.labels q.0) || is_kept_set origin owner q.1) (rows_map.get rows q) None
      by None e b s = none_both (list_any deletes found) (not (same_labels owner.labels q.0) || is_kept_set origin owner q.1) (rows_map.get rows q) e
      by (Some rs) e true s =
          ap (λ b. cond b None (rows_map.get rows q)) (deletes_there found (all q s (ap is_some e)))
          ∙ turned (is_kept_set origin owner q.1) (rows_map.get rows q)
          ∙ ap (λ b. cond (not b || is_kept_set origin owner q.1) (rows_map.get rows q) None) (sym s)
      by (Some rs) e false s =
          ap (λ b. cond b None (rows_map.get rows q)) (deletes_not found s)
          ∙ ap (λ b. cond (not b || is_kept_set origin owner q.1) (rows_map.get rows q) None) (sym s)

pub types_deleted : (origin owner : DomainName) (rows : Rows) (found : List RecordType) → AreTypesAt rows owner.labels found
    → fold (λ (left : Rows) (t : RecordType). without_set origin left owner t) rows found ≡ without_name origin rows owner
types_deleted origin owner rows found all = same_rows _ _ (λ q. get_without_name origin owner q rows found all)
