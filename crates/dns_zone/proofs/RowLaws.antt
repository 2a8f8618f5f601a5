-- The rows of sets: where a set stands, and what one more row makes of them.
use Rattle.std.proofs.lemmas.List.{length-map}
use Rattle.std.proofs.Common.{◌≡◌, ◌==◌, ◌≢◌, ℕ, Bool, true, false, cond, ◌&&◌, ◌||◌, List, [], ◌∷◌, map, refl, sym, ap, ◌∙◌, subst, length, arith, Option, Some, None, unwrap_or, is_some}
use Rattle.std.specs.List.{list_any}
use Rattle.std.specs.Ordering.{eq_by_cmp, nat_cmp, ordering_then}
use Rattle.std.proofs.Common.{Ordering, Less, Equal, Greater}
use Rattle.std.specs.Cmp.{IsTotalOrder, both_tied, then_total, on_total, nat_cmp_total, unsigned_ties}
use Rattle.std.specs.Cmp.Lexicographic.{slice_cmp, lists_total, lists_ties, texts_ties, nat_list_cmp_total, pointwise}
use Rattle.std.specs.Str.{bytes_eq, str_to_ascii_lowercase}
use Rattle.std.specs.List as list
use Rattle.std.specs.FinMap as rows_map
use Rattle.std.proofs.lemmas.Str.Ascii.{lowercase-lowercase}
use Rattle.std.specs.FinMap.{IsAntisymmetric, slice_cmp-IsAntisymmetric, nat_cmp-IsAntisymmetric}
use Rattle.std.specs.FinMap.Entries.{find, put, by_order}
use Rattle.dns_wire.specs.codes.RecordType.{type_number}
use Rattle.dns_wire.specs.declared.codes.record_type.RecordType.{RecordType}
use Rattle.dns_names.specs.Compare.{lower, same_labels, at_or_below}
use Rattle.dns_records.specs.declared.row.Row.{Row}
use Rattle.dns_records.specs.RecordSet.{RecordSetValue}
use Rattle.dns_zone.specs.Rows.{Key, key, key_cmp, set_key, row_of, rows_of, rows_of_sets, rows_at, some_row_below, AreSoundRows, AreSoundSets, HasNoEmptySet}

-- ---- the order of keys

pub key_total : IsTotalOrder key_cmp
key_total = then_total (on_total (λ (k : Key). k.0) (lists_total nat_list_cmp_total)) (on_total (λ (k : Key). k.1) nat_cmp_total)

both_equal : (a b : Ordering) → ordering_then a b ≡ Equal → (a ≡ Equal) × (b ≡ Equal)
both_equal Less b e = absurd (subst (λ r. elim r as (λ _. Type 0) [ Less ↦ Unit {0} | Equal ↦ ⊥ | Greater ↦ Unit {0} ]) e tt)
both_equal Equal b e = (refl, e)
both_equal Greater b e = absurd (subst (λ r. elim r as (λ _. Type 0) [ Less ↦ Unit {0} | Equal ↦ ⊥ | Greater ↦ Unit {0} ]) e tt)

pub key_antisymmetric : IsAntisymmetric key_cmp
key_antisymmetric x y e =
    let p = both_equal _ _ e in
    let a = slice_cmp-IsAntisymmetric (slice_cmp-IsAntisymmetric nat_cmp-IsAntisymmetric) x.0 y.0 p.0 in
    let b = nat_cmp-IsAntisymmetric x.1 y.1 p.1 in
    λ i. (a i, b i)

pointwise_map : {A B : Type 0} (E : B → B → Bool) (f : A → B) (xs ys : List A) → pointwise (λ x y. E (f x) (f y)) xs ys ≡ pointwise E (map f xs) (map f ys)
pointwise_map E f [] [] = refl
pointwise_map E f [] (y ∷ ys) = refl
pointwise_map E f (x ∷ xs) [] = refl
pointwise_map E f (x ∷ xs) (y ∷ ys) = ap (λ b. E (f x) (f y) && b) (pointwise_map E f xs ys)

labels_tie : (a b : List (List ℕ)) → same_labels a b ≡ eq_by_cmp (slice_cmp (slice_cmp nat_cmp)) (lower a) (lower b)
labels_tie a b = pointwise_map bytes_eq str_to_ascii_lowercase a b ∙ lists_ties (slice_cmp nat_cmp) texts_ties (lower a) (lower b)

-- keys tie where the owners are the same up to ASCII case, and the types by their numbers
pub keys_tie : (a b : List (List ℕ)) (t u : RecordType) → (same_labels a b && (type_number t == type_number u)) ≡ eq_by_cmp key_cmp (key a t) (key b u)
keys_tie a b t u = both_tied _ _ _ _ (labels_tie a b) (unsigned_ties (type_number t) (type_number u))

-- ---- looking a set up

abbrev pub tied : Key → RecordSetValue → Bool
tied q s = eq_by_cmp key_cmp q (set_key s)

abbrev entries_of : List RecordSetValue → List (Key × List Row)
entries_of sets = map (λ (s : RecordSetValue). (set_key s, rows_of s.records)) sets

unfoldable pub rows_if : Option RecordSetValue → Option (List Row)
rows_if None = None
rows_if (Some s) = Some (rows_of s.records)

pub is_some_rows : (o : Option RecordSetValue) → is_some (rows_if o) ≡ is_some o
unfolding rows_if
is_some_rows None = refl
is_some_rows (Some s) = refl

find_set : (q : Key) (sets : List RecordSetValue) → find key_cmp q (entries_of sets) ≡ rows_if (list.find (tied q) sets)
unfolding rows_if
find_set q [] = refl
find_set q (s ∷ ss) =
    elim (tied q s) as (λ b. cond b (Some (rows_of s.records)) (find key_cmp q (entries_of ss)) ≡ rows_if (cond b (Some s) (list.find (tied q) ss))) [ true ↦ refl | false ↦ find_set q ss ]

pub get-sets : (sets : List RecordSetValue) (q : Key) → rows_map.get (rows_of_sets sets) q ≡ rows_if (list.find (tied q) sets)
get-sets sets q = rows_map.get-from_entries key_total (entries_of sets) q ∙ find_set q sets

-- a set is found there
pub rows_found_at : (sets : List RecordSetValue) (owner : List (List ℕ)) (t : RecordType) (s : RecordSetValue) → Some s ≡ list.find (tied (key owner t)) sets
    → rows_at (rows_of_sets sets) owner t ≡ rows_of s.records
unfolding rows_if
rows_found_at sets owner t s is = ap (λ o. unwrap_or o []) (get-sets sets (key owner t) ∙ ap rows_if (sym is))

-- no set is found there
pub no_rows_at : (sets : List RecordSetValue) (owner : List (List ℕ)) (t : RecordType) → None ≡ list.find (tied (key owner t)) sets → rows_at (rows_of_sets sets) owner t ≡ []
unfolding rows_if
no_rows_at sets owner t is = ap (λ o. unwrap_or o []) (get-sets sets (key owner t) ∙ ap rows_if (sym is))

-- ---- names above rows

pub label_twice : (l : List ℕ) → str_to_ascii_lowercase (str_to_ascii_lowercase l) ≡ str_to_ascii_lowercase l
label_twice [] = refl
label_twice (c ∷ cs) = λ i. lowercase-lowercase c i ∷ label_twice cs i

pub same_lower : (a b : List (List ℕ)) → same_labels a (lower b) ≡ same_labels a b
same_lower [] [] = refl
same_lower [] (y ∷ ys) = refl
same_lower (x ∷ xs) [] = refl
same_lower (x ∷ xs) (y ∷ ys) = λ i. bytes_eq (str_to_ascii_lowercase x) (label_twice y i) && same_lower xs ys i

pub below_lower : (o a : List (List ℕ)) → at_or_below o (lower a) ≡ at_or_below o a
below_lower o [] = refl
below_lower o (x ∷ xs) = λ i. same_lower o (x ∷ xs) i || below_lower o xs i

or_swap : (a b c : Bool) → (a || (b || c)) ≡ (b || (a || c))
or_swap true true c = refl
or_swap true false c = refl
or_swap false true c = refl
or_swap false false c = refl

or_twice : (a c : Bool) → (a || c) ≡ (a || (a || c))
or_twice true c = refl
or_twice false c = refl

keys_pass : (Key → Bool) → List (Key × List Row) → Bool
keys_pass P es = list_any P (map (λ e. e.0) es)

put_by : (P : Key → Bool) (k : Key) (v : List Row) (e : Key × List Row) (es more : List (Key × List Row)) (o : Ordering) → key_cmp k e.0 ≡ o → keys_pass P more ≡ (P k || keys_pass P es)
    → keys_pass P (by_order o ((k, v) ∷ e ∷ es) ((e.0, v) ∷ es) (e ∷ more)) ≡ (P k || (P e.0 || keys_pass P es))
unfolding keys_pass
put_by P k v e es more Less t h = refl
put_by P k v e es more Equal t h = or_twice (P e.0) (keys_pass P es) ∙ ap (λ x. P x || (P e.0 || keys_pass P es)) (sym (key_antisymmetric k e.0 t))
put_by P k v e es more Greater t h = ap (λ b. P e.0 || b) h ∙ or_swap (P e.0) (P k) (keys_pass P es)

-- a key that is put in place is among the keys, and no other comes or goes
any_put : (P : Key → Bool) (k : Key) (v : List Row) (es : List (Key × List Row)) → keys_pass P (put key_cmp k v es) ≡ (P k || keys_pass P es)
unfolding keys_pass
any_put P k v [] = refl
any_put P k v (e ∷ es) = put_by P k v e es (put key_cmp k v es) (key_cmp k e.0) refl (any_put P k v es)

entries_empty : rows_map.entries (rows_map.empty {K = Key} {X = List Row} {R = key_cmp}) ≡ []
entries_empty = no_entries (rows_map.entries _) (sym (rows_map.len-entries _) ∙ rows_map.len-empty key_cmp (List Row))
  where
    no_entries : (es : List (Key × List Row)) → length es ≡ 0 → es ≡ []
    no_entries [] e = refl
    no_entries (x ∷ es) e = absurd (omega arith)

any_entries : (P : Key → Bool) (es : List (Key × List Row)) → keys_pass P (rows_map.entries (rows_map.from_entries {R = key_cmp} es)) ≡ keys_pass P es
unfolding keys_pass
any_entries P [] = ap (keys_pass P) entries_empty
any_entries P (e ∷ es) =
    ap (keys_pass P) (rows_map.entries-insert key_total (rows_map.from_entries {R = key_cmp} es) e.0 e.1)
    ∙ any_put P e.0 e.1 (rows_map.entries (rows_map.from_entries {R = key_cmp} es)) ∙ ap (λ b. P e.0 || b) (any_entries P es)

any_owners : (name : List (List ℕ)) (sets : List RecordSetValue) → list_any (λ (s : RecordSetValue). at_or_below name s.name.labels) sets ≡ keys_pass (λ k. at_or_below name k.0) (entries_of sets)
unfolding keys_pass
any_owners name [] = refl
any_owners name (s ∷ ss) = λ i. sym (below_lower name s.name.labels) i || any_owners name ss i

pub row_below : (sets : List RecordSetValue) (name : List (List ℕ)) → list_any (λ (s : RecordSetValue). at_or_below name s.name.labels) sets ≡ some_row_below (rows_of_sets sets) name
unfolding keys_pass
row_below sets name = any_owners name sets ∙ sym (any_entries (λ k. at_or_below name k.0) (entries_of sets))

-- the rows at each key are sound
sound_if : (p : RecordSetValue → Bool) (sets : List RecordSetValue) → AreSoundSets sets → AreSoundRows (unwrap_or (rows_if (list.find p sets)) [])
unfolding rows_if
sound_if p [] all = tt
sound_if p (s ∷ ss) all = by_test (p s) (sound_if p ss all.1)
  where
    by_test : (b : Bool) → AreSoundRows (unwrap_or (rows_if (list.find p ss)) []) → AreSoundRows (unwrap_or (rows_if (cond b (Some s) (list.find p ss))) [])
    by_test true more = all.0.rows
    by_test false more = more

pub sound_rows_at : (sets : List RecordSetValue) → AreSoundSets sets → (labels : List (List ℕ)) (t : RecordType) → AreSoundRows (rows_at (rows_of_sets sets) labels t)
sound_rows_at sets all labels t = subst (λ (o : Option (List Row)). AreSoundRows (unwrap_or o [])) (sym (get-sets sets (key labels t))) (sound_if (tied (key labels t)) sets all)

-- ---- no key is without rows

filled_there : (p : RecordSetValue → Bool) (sets : List RecordSetValue) → AreSoundSets sets → rows_if (list.find p sets) ≢ Some []
unfolding rows_if
filled_there p [] all e = cc
filled_there p (s ∷ ss) all e = by_test (p s) (filled_there p ss all.1) e
  where
    by_test : (b : Bool) → rows_if (list.find p ss) ≢ Some [] → rows_if (cond b (Some s) (list.find p ss)) ≡ Some [] → ⊥
    by_test true more f = let none : rows_of s.records ≡ [] = cc in absurd (omega (arith, all.0.filled, length-map s.records row_of, ap (λ (rows : List Row). length rows) none))
    by_test false more f = more f

pub no_empty_set : (sets : List RecordSetValue) → AreSoundSets sets → HasNoEmptySet (rows_of_sets sets)
no_empty_set sets all k e = filled_there (tied k) sets all (sym (get-sets sets k) ∙ e)
