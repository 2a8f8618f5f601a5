-- Maps of rows: looking up a set, and putting one.
use Rattle.std.proofs.Common.{◌≡◌, ◌≢◌, Bool, true, false, cond, List, [], ◌∷◌, refl, sym, ap, ◌∙◌, Option, Some, None, unwrap_or}
use Rattle.std.specs.List.{fold, AllByRecursion}
use Rattle.std.specs.Ordering.{eq_by_cmp, ordering_then, is_eq}
use Rattle.std.proofs.Common.{Ordering, Less, Equal, Greater}
use Rattle.std.specs.Cmp.{IsTotalOrder, then_total, on_total, nat_cmp_total, eq_by_cmp_equiv}
use Rattle.std.specs.Cmp.Lexicographic.{lists_total, nat_list_cmp_total}
use Rattle.std.specs.FinMap as rows_map
use Rattle.std.specs.FinMap.{IsAntisymmetric, slice_cmp-IsAntisymmetric, nat_cmp-IsAntisymmetric}
use Rattle.dns_records.specs.declared.row.Row.{Row}
use Rattle.dns_records.specs.Record.{Record}
use Rattle.dns_records.specs.Rows.{Key, Rows, key_cmp, with_set}

-- ---- the order of keys

pub key_total : IsTotalOrder key_cmp
key_total = then_total (on_total (λ (k : Key). k.0) (lists_total nat_list_cmp_total)) (on_total (λ (k : Key). k.1) nat_cmp_total)

both_equal : (a b : Ordering) → ordering_then a b ≡ Equal → (a ≡ Equal) × (b ≡ Equal)
both_equal Less b e = absurd (cc)
both_equal Equal b e = (refl, e)
both_equal Greater b e = absurd (cc)

pub key_antisymmetric : IsAntisymmetric key_cmp
key_antisymmetric x y e =
    let p = both_equal _ _ e in
    let a = slice_cmp-IsAntisymmetric (slice_cmp-IsAntisymmetric nat_cmp-IsAntisymmetric) x.0 y.0 p.0 in
    let b = nat_cmp-IsAntisymmetric x.1 y.1 p.1 in
    λ i. (a i, b i)

is_eq-true : (r : Ordering) → is_eq r ≡ true → r ≡ Equal
is_eq-true Less e = absurd (cc)
is_eq-true Equal e = refl
is_eq-true Greater e = absurd (cc)

pub same_key : (x y : Key) → eq_by_cmp key_cmp x y ≡ true → x ≡ y
same_key x y e = key_antisymmetric x y (is_eq-true (key_cmp x y) e)

pub tied_itself : (k : Key) → eq_by_cmp key_cmp k k ≡ true
tied_itself k = (eq_by_cmp_equiv key_total).refl k

pub same_rows : (a b : Rows) → ((q : Key) → rows_map.get a q ≡ rows_map.get b q) → a ≡ b
same_rows a b = rows_map.same_map key_total key_antisymmetric a b

-- ---- a set at a key

pub filled : List Row → Option (List Row)
filled [] = None
filled (x ∷ xs) = Some (x ∷ xs)

abbrev pub set_at : Rows → Key → List Row
set_at rows k = unwrap_or (rows_map.get rows k) []

pub get_with_set : (rows : Rows) (k : Key) (s : List Row) (q : Key) → rows_map.get (with_set rows k s) q ≡ cond (eq_by_cmp key_cmp q k) (filled s) (rows_map.get rows q)
unfolding filled
get_with_set rows k [] q = rows_map.get-remove key_total rows k q
get_with_set rows k (x ∷ xs) q = rows_map.get-insert key_total rows k (x ∷ xs) q

pub filled_more : (x : Row) (xs : List Row) → filled (x ∷ xs) ≡ Some (x ∷ xs)
unfolding filled
filled_more x xs = refl

pub filled_empty : filled [] ≡ None
unfolding filled
filled_empty = refl

pub unwrap_filled : (s : List Row) → unwrap_or (filled s) [] ≡ s
unfolding filled
unwrap_filled [] = refl
unwrap_filled (x ∷ xs) = refl

filled_unwrap : (o : Option (List Row)) → o ≢ Some [] → filled (unwrap_or o []) ≡ o
unfolding filled
filled_unwrap None h = refl
filled_unwrap (Some []) h = absurd (h refl)
filled_unwrap (Some (x ∷ xs)) h = refl

filled_full : (s : List Row) → filled s ≢ Some []
unfolding filled
filled_full [] e = cc
filled_full (x ∷ xs) e = cc

pub get_set : (rows : Rows) (k : Key) (s : List Row) → rows_map.get (with_set rows k s) k ≡ filled s
get_set rows k s = get_with_set rows k s k ∙ ap (λ b. cond b (filled s) (rows_map.get rows k)) (tied_itself k)

pub set_at_with_set : (rows : Rows) (k : Key) (s : List Row) → set_at (with_set rows k s) k ≡ s
set_at_with_set rows k s = ap (λ o. unwrap_or o []) (get_set rows k s) ∙ unwrap_filled s

pub with_set_full : (rows : Rows) (k : Key) (s : List Row) → rows_map.get (with_set rows k s) k ≢ Some []
with_set_full rows k s e = filled_full s (sym (get_set rows k s) ∙ e)

pub filled_left : (rows : Rows) (k : Key) (s : List Row) → ((q : Key) → rows_map.get rows q ≢ Some []) → (q : Key) → rows_map.get (with_set rows k s) q ≢ Some []
filled_left rows k s h q e = by (eq_by_cmp key_cmp q k) (sym (get_with_set rows k s q) ∙ e)
  where
    by : (b : Bool) → cond b (filled s) (rows_map.get rows q) ≡ Some [] → ⊥
    by true f = filled_full s f
    by false f = h q f

pub get_other : (rows : Rows) (k : Key) (s : List Row) (q : Key) → eq_by_cmp key_cmp q k ≡ false → rows_map.get (with_set rows k s) q ≡ rows_map.get rows q
get_other rows k s q e = get_with_set rows k s q ∙ ap (λ b. cond b (filled s) (rows_map.get rows q)) e

pub with_set_here : (rows : Rows) (k : Key) → rows_map.get rows k ≢ Some [] → with_set rows k (set_at rows k) ≡ rows
with_set_here rows k h = same_rows _ rows (λ q. get_with_set rows k (set_at rows k) q ∙ by q (eq_by_cmp key_cmp q k) refl)
  where
    by : (q : Key) (b : Bool) → eq_by_cmp key_cmp q k ≡ b → cond b (filled (set_at rows k)) (rows_map.get rows q) ≡ rows_map.get rows q
    by q true e = filled_unwrap (rows_map.get rows k) h ∙ ap (rows_map.get rows) (sym (same_key q k e))
    by q false e = refl

pub with_set_twice : (rows : Rows) (k : Key) (a b : List Row) → with_set (with_set rows k a) k b ≡ with_set rows k b
with_set_twice rows k a b = same_rows _ _ (λ q.
    get_with_set (with_set rows k a) k b q ∙ ap (cond (eq_by_cmp key_cmp q k) (filled b)) (get_with_set rows k a q)
    ∙ by (eq_by_cmp key_cmp q k) (rows_map.get rows q) ∙ sym (get_with_set rows k b q))
  where
    by : (t : Bool) (o : Option (List Row)) → cond t (filled b) (cond t (filled a) o) ≡ cond t (filled b) o
    by true o = refl
    by false o = refl

-- ---- changes of one set

-- changes that each put a set at one key put what they make of it together
module _ (k : Key) (f : Rows → Record → Rows) (g : List Row → Record → List Row) (Inv : Rows → Type 0) (keeps : (rows : Rows) (s : List Row) → Inv rows → Inv (with_set rows k s)) where
  abbrev pub Puts : Record → Type 0
  Puts r = (rows : Rows) → Inv rows → f rows r ≡ with_set rows k (g (set_at rows k) r)

  pub fold_at : (rs : List Record) → AllByRecursion Puts rs → (rows : Rows) → Inv rows → rows_map.get rows k ≢ Some [] → fold f rows rs ≡ with_set rows k (fold g (set_at rows k) rs)
  fold_at [] all rows inv full = sym (with_set_here rows k full)
  fold_at (r ∷ rs) all rows inv full =
      let s : List Row = g (set_at rows k) r in
      ap (λ x. fold f x rs) (all.0 rows inv)
      ∙ fold_at rs all.1 (with_set rows k s) (keeps rows s inv) (with_set_full rows k s)
      ∙ ap (λ x. with_set (with_set rows k s) k (fold g x rs)) (set_at_with_set rows k s)
      ∙ with_set_twice rows k s (fold g s rs)
