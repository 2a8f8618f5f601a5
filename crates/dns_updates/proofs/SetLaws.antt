-- The rows of record sets: at each key those of the first set there.
use Rattle.std.proofs.Common.{◌≡◌, ◌==◌, ◌<◌, ◌≤◌, ℕ, Bool, true, false, cond, ◌&&◌, ◌||◌, List, [], ◌∷◌, map, refl, sym, ap, ◌∙◌, length, get_or, arith, Option, Some, None, unwrap_or}
use Rattle.std.proofs.Common.{Ordering, Less, Equal, Greater}
use Rattle.std.proofs.lemmas.List.Folds.{find_at}
use Rattle.std.proofs.lemmas.Option.{slice_get-get_or, slice_get_past}
use Rattle.std.specs.List.{list_any, position_or_len, slice_get}
use Rattle.std.specs.List as list
use Rattle.std.specs.Ordering.{eq_by_cmp, nat_cmp}
use Rattle.std.specs.Cmp.{both_tied, unsigned_ties}
use Rattle.std.specs.Cmp.Lexicographic.{slice_cmp, lists_ties, texts_ties, pointwise}
use Rattle.std.specs.Str.{bytes_eq, str_to_ascii_lowercase}
use Rattle.std.specs.FinMap as rows_map
use Rattle.std.specs.FinMap.Entries.{find, put, by_order}
use Rattle.dns_wire.specs.codes.RecordType.{type_number}
use Rattle.dns_wire.specs.declared.codes.record_type.RecordType.{RecordType}
use Rattle.dns_names.specs.Name.{DomainName}
use Rattle.dns_names.specs.Compare.{lower, same_labels}
use Rattle.dns_records.specs.declared.row.Row.{Row}
use Rattle.dns_records.specs.RecordSet.{RecordSetValue}
use Rattle.dns_records.specs.Rows.{Key, Rows, key, key_cmp, set_key, rows_of, rows_at}
use Rattle.dns_updates.specs.Records.{has_set, has_rows}
use Rattle.dns_updates.specs.Sets.{rows_of_sets}
use Rattle.dns_updates.proofs.Walks.{any_alike}
use Rattle.dns_updates.proofs.UpdateLaws.Maps.{key_total, key_antisymmetric}
use Rattle.dns_updates.proofs.UpdateLaws.Sets.{label_twice}

-- ---- keys

pointwise_map : {A B : Type 0} (E : B → B → Bool) (f : A → B) (xs ys : List A) → pointwise (λ x y. E (f x) (f y)) xs ys ≡ pointwise E (map f xs) (map f ys)
pointwise_map E f [] [] = refl
pointwise_map E f [] (y ∷ ys) = refl
pointwise_map E f (x ∷ xs) [] = refl
pointwise_map E f (x ∷ xs) (y ∷ ys) = ap (λ b. E (f x) (f y) && b) (pointwise_map E f xs ys)

labels_tie : (a b : List (List ℕ)) → same_labels a b ≡ eq_by_cmp (slice_cmp (slice_cmp nat_cmp)) (lower a) (lower b)
labels_tie a b = pointwise_map bytes_eq str_to_ascii_lowercase a b ∙ lists_ties (slice_cmp nat_cmp) texts_ties (lower a) (lower b)

-- keys tie where the owners are the same up to ASCII case, and the types by their numbers
pub keys_tie : (a b : List (List ℕ)) (t u : RecordType) → (same_labels a b && (type_number t == type_number u)) ≡ eq_by_cmp key_cmp (key a t) (key b u)
keys_tie a b t u = both_tied _ _ _ _ (labels_tie a b) (unsigned_ties (type_number t) (type_number u))

pub same_lower : (a b : List (List ℕ)) → same_labels a (lower b) ≡ same_labels a b
same_lower [] [] = refl
same_lower [] (y ∷ ys) = refl
same_lower (x ∷ xs) [] = refl
same_lower (x ∷ xs) (y ∷ ys) = λ i. bytes_eq (str_to_ascii_lowercase x) (label_twice y i) && same_lower xs ys i

-- ---- looking a set up

abbrev pub tied : Key → RecordSetValue → Bool
tied q s = eq_by_cmp key_cmp q (set_key s)

abbrev entries_of : List RecordSetValue → List (Key × List Row)
entries_of sets = map (λ (s : RecordSetValue). (set_key s, rows_of s.records)) sets

unfoldable pub rows_if : Option RecordSetValue → Option (List Row)
rows_if None = None
rows_if (Some s) = Some (rows_of s.records)

find_set : (q : Key) (sets : List RecordSetValue) → find key_cmp q (entries_of sets) ≡ rows_if (list.find (tied q) sets)
unfolding rows_if
find_set q [] = refl
find_set q (s ∷ ss) =
    elim (tied q s) as (λ b. cond b (Some (rows_of s.records)) (find key_cmp q (entries_of ss)) ≡ rows_if (cond b (Some s) (list.find (tied q) ss))) [ true ↦ refl | false ↦ find_set q ss ]

pub get-sets : (sets : List RecordSetValue) (q : Key) → rows_map.get (rows_of_sets sets) q ≡ rows_if (list.find (tied q) sets)
get-sets sets q = rows_map.get-from_entries key_total (entries_of sets) q ∙ find_set q sets

-- a set that stands at the place
pub rows_there : (sets : List RecordSetValue) (owner : List (List ℕ)) (t : RecordType) (i : ℕ) (x : RecordSetValue) → i ≡ position_or_len (tied (key owner t)) sets → i < length sets → x ≡ get_or sets i x
    → rows_at (rows_of_sets sets) owner t ≡ rows_of x.records
unfolding rows_if
rows_there sets owner t i x e h is =
    ap (λ o. unwrap_or o []) (get-sets sets (key owner t) ∙ ap rows_if (find_at (tied (key owner t)) sets ∙ ap (slice_get sets) (sym e) ∙ slice_get-get_or sets i x h ∙ ap Some (sym is)))

-- no set stands there
pub rows_nowhere : (sets : List RecordSetValue) (owner : List (List ℕ)) (t : RecordType) (i : ℕ) → i ≡ position_or_len (tied (key owner t)) sets → length sets ≤ i
    → rows_at (rows_of_sets sets) owner t ≡ []
unfolding rows_if
rows_nowhere sets owner t i e h =
    ap (λ o. unwrap_or o []) (get-sets sets (key owner t) ∙ ap rows_if (find_at (tied (key owner t)) sets ∙ ap (slice_get sets) (sym e) ∙ slice_get_past sets i h))

-- ---- which keys there are

or_swap : (a b c : Bool) → (a || (b || c)) ≡ (b || (a || c))
or_swap true true c = refl
or_swap true false c = refl
or_swap false true c = refl
or_swap false false c = refl

or_twice : (a c : Bool) → (a || c) ≡ (a || (a || c))
or_twice true c = refl
or_twice false c = refl

keys_pass : (Key → Bool) → List (Key × List Row) → Bool
keys_pass P es = list_any P (map (λ e. e.0) es)

put_by : (P : Key → Bool) (k : Key) (v : List Row) (e : Key × List Row) (es more : List (Key × List Row)) (o : Ordering) → key_cmp k e.0 ≡ o → keys_pass P more ≡ (P k || keys_pass P es)
    → keys_pass P (by_order o ((k, v) ∷ e ∷ es) ((e.0, v) ∷ es) (e ∷ more)) ≡ (P k || (P e.0 || keys_pass P es))
unfolding keys_pass
put_by P k v e es more Less t h = refl
put_by P k v e es more Equal t h = or_twice (P e.0) (keys_pass P es) ∙ ap (λ x. P x || (P e.0 || keys_pass P es)) (sym (key_antisymmetric k e.0 t))
put_by P k v e es more Greater t h = ap (λ b. P e.0 || b) h ∙ or_swap (P e.0) (P k) (keys_pass P es)

any_put : (P : Key → Bool) (k : Key) (v : List Row) (es : List (Key × List Row)) → keys_pass P (put key_cmp k v es) ≡ (P k || keys_pass P es)
unfolding keys_pass
any_put P k v [] = refl
any_put P k v (e ∷ es) = put_by P k v e es (put key_cmp k v es) (key_cmp k e.0) refl (any_put P k v es)

-- a key that is put in place is among the keys, and no other comes or goes
pub any_key_put : (P : Key → Bool) (rows : Rows) (k : Key) (v : List Row) → list_any P (rows_map.keys (rows_map.insert rows k v)) ≡ (P k || list_any P (rows_map.keys rows))
unfolding keys_pass
any_key_put P rows k v = ap (keys_pass P) (rows_map.entries-insert key_total rows k v) ∙ any_put P k v (rows_map.entries rows)

entries_empty : rows_map.entries (rows_map.empty {K = Key} {X = List Row} {R = key_cmp}) ≡ []
entries_empty = no_entries (rows_map.entries _) (sym (rows_map.len-entries _) ∙ rows_map.len-empty key_cmp (List Row))
  where
    no_entries : (es : List (Key × List Row)) → length es ≡ 0 → es ≡ []
    no_entries [] e = refl
    no_entries (x ∷ es) e = absurd (omega arith)

pub any_set : (P : Key → Bool) (sets : List RecordSetValue) → list_any (λ (s : RecordSetValue). P (set_key s)) sets ≡ list_any P (rows_map.keys (rows_of_sets sets))
unfolding keys_pass
any_set P [] = sym (ap (keys_pass P) entries_empty)
any_set P (s ∷ ss) = ap (λ b. P (set_key s) || b) (any_set P ss) ∙ sym (any_key_put P (rows_of_sets ss) (set_key s) (rows_of s.records))

pub any_at_key : (sets : List RecordSetValue) (owner : DomainName) (t : RecordType) → list_any (tied (key owner.labels t)) sets ≡ has_set (rows_of_sets sets) owner t
any_at_key sets owner t = any_set (eq_by_cmp key_cmp (key owner.labels t)) sets ∙ sym (rows_map.contains_key-keys (rows_of_sets sets) (key owner.labels t))

pub any_of_name : (sets : List RecordSetValue) (owner : DomainName) → list_any (λ (s : RecordSetValue). same_labels owner.labels s.name.labels) sets ≡ has_rows (rows_of_sets sets) owner
any_of_name sets owner =
    any_alike _ _ (λ (s : RecordSetValue). sym (same_lower owner.labels s.name.labels)) sets
    ∙ any_set (λ k. same_labels owner.labels k.0) sets
