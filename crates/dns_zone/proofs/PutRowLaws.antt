-- A row that is put into a set: the row that it replaces, and the row that it adds.
use Rattle.std.proofs.Common.{◌≡◌, ◌==◌, ◌∙◌, Bool, true, false, cond, not, ◌&&◌, ◌||◌, List, [], ◌∷◌, refl, sym, ap, subst, Some}
use Rattle.std.specs.Cmp.{IsEquivalence, eq_by_cmp_equiv}
use Rattle.std.specs.List as list
use Rattle.std.specs.List.{AllByRecursion, IsDistinct}
use Rattle.dns_data.specs.internal.DataOrder.{data_cmp-total, data_tie}
use Rattle.dns_data.specs.rdata.{same_data}
use Rattle.dns_differences.specs.Difference.{has_row, same_row}
use Rattle.dns_differences.proofs.RecordLaws.{row_equiv}
use Rattle.dns_records.specs.RecordSet.{AreDistinct}
use Rattle.dns_records.specs.declared.row.Row.{Row}
use Rattle.dns_updates.specs.Change.{with_row}
use Rattle.dns_zone.specs.Rows.{row_data}
use Rattle.dns_zone.specs.internal.Change.{put_by, replaced_by, rows_lacking, rows_put, rows_replaced}

data_equiv : IsEquivalence same_data
data_equiv = subst IsEquivalence (λ i x y. sym (data_tie x y) i) (eq_by_cmp_equiv data_cmp-total)

-- no row has the data of another
abbrev HasNone : Row → List Row → Type 0
HasNone row rows = AllByRecursion (λ (x : Row). same_data row.rdata x.rdata ≡ false) rows

no_and : (a : Bool) → (a && false) ≡ false
no_and true = refl
no_and false = refl

none_same : (row : Row) (rows : List Row) → HasNone row rows → has_row rows row ≡ false
none_same row [] all = refl
none_same row (x ∷ xs) all =
    let miss : same_row x row ≡ false = (λ i. (x.ttl == row.ttl) && (data_equiv.symm x.rdata row.rdata ∙ all.0) i) ∙ no_and (x.ttl == row.ttl) in
    λ i. miss i || none_same row xs all.1 i

or_right : (a b : Bool) → b ≡ true → (a || b) ≡ true
or_right true b e = refl
or_right false b e = e

weaken : (x : Row) (xs ys : List Row) → AllByRecursion (λ y. has_row xs y ≡ true) ys → AllByRecursion (λ y. has_row (x ∷ xs) y ≡ true) ys
weaken x xs [] all = tt
weaken x xs (y ∷ ys) all = (or_right (same_row x y) (has_row xs y) all.0, weaken x xs ys all.1)

pub all_there : (xs : List Row) → AllByRecursion (λ y. has_row xs y ≡ true) xs
all_there [] = tt
all_there (x ∷ xs) = (ap (λ (b : Bool). b || has_row xs x) (row_equiv.refl x), weaken x xs xs (all_there xs))

lacking_none : (xs ys : List Row) → AllByRecursion (λ y. has_row xs y ≡ true) ys → rows_lacking xs ys ≡ []
lacking_none xs [] all = refl
lacking_none xs (y ∷ ys) all = ap (λ (b : Bool). cond (not b) (y ∷ rows_lacking xs ys) (rows_lacking xs ys)) all.0 ∙ lacking_none xs ys all.1

-- a row with other data makes no difference
skip : (o : Row) (xs ys : List Row) → HasNone o ys → rows_lacking (o ∷ xs) ys ≡ rows_lacking xs ys
skip o xs [] none = refl
skip o xs (y ∷ ys) none =
    let miss : same_row o y ≡ false = (λ i. (o.ttl == y.ttl) && none.0 i) ∙ no_and (o.ttl == y.ttl) in
    λ i. cond (not (miss i || has_row xs y)) (y ∷ skip o xs ys none.1 i) (skip o xs ys none.1 i)

none_with : (o : Row) (xs : List Row) (row : Row) → HasNone o xs → same_data o.rdata row.rdata ≡ false → HasNone o (with_row xs row)
none_with o [] row all e = (e, tt)
none_with o (x ∷ xs) row all e = by (same_data x.rdata row.rdata) (none_with o xs row all.1 e)
  where
    by : (b : Bool) → HasNone o (with_row xs row) → HasNone o (cond b (row ∷ xs) (x ∷ with_row xs row))
    by true more = (e, all.1)
    by false more = (all.0, more)

none_of_same : (o row : Row) (xs : List Row) → same_data o.rdata row.rdata ≡ true → HasNone o xs → HasNone row xs
none_of_same o row [] e none = tt
none_of_same o row (x ∷ xs) e none = (sym (data_equiv.congr o.rdata row.rdata x.rdata e) ∙ none.0, none_of_same o row xs e none.1)

only_ttl : (a : Bool) → ((a && true) || false) ≡ a
only_ttl true = refl
only_ttl false = refl

swapped : (b : Bool) (row : Row) → cond (not b) (row ∷ []) [] ≡ cond b [] (row ∷ [])
swapped true row = refl
swapped false row = refl

pub put_is : (rows : List Row) (row : Row) → AreDistinct row_data rows → rows_lacking rows (with_row rows row) ≡ rows_put rows row
unfolding IsDistinct
put_is [] row d = refl
put_is (o ∷ os) row d = by (same_data o.rdata row.rdata) refl (put_is os row d.1)
  where
    by : (b : Bool) → same_data o.rdata row.rdata ≡ b → rows_lacking os (with_row os row) ≡ rows_put os row
        → rows_lacking (o ∷ os) (cond b (row ∷ os) (o ∷ with_row os row)) ≡ put_by (cond b (Some o) (list.find (λ (x : Row). same_data x.rdata row.rdata) os)) row
    by true e more =
        let here : has_row (o ∷ os) row ≡ (o.ttl == row.ttl) =
        (λ i. ((o.ttl == row.ttl) && e i) || none_same row os (none_of_same o row os e d.0) i) ∙ only_ttl (o.ttl == row.ttl) in
        (λ i. cond (not (here i)) (row ∷ lacking_none (o ∷ os) os (weaken o os os (all_there os)) i) (lacking_none (o ∷ os) os (weaken o os os (all_there os)) i))
        ∙ swapped (o.ttl == row.ttl) row
    by false e more =
        ap (λ (b : Bool). cond (not b) (o ∷ rows_lacking (o ∷ os) (with_row os row)) (rows_lacking (o ∷ os) (with_row os row))) (all_there (o ∷ os)).0
        ∙ skip o os (with_row os row) (none_with o os row d.0 e) ∙ more

pub replaced_is : (rows : List Row) (row : Row) → AreDistinct row_data rows → rows_lacking (with_row rows row) rows ≡ rows_replaced rows row
unfolding IsDistinct
replaced_is [] row d = refl
replaced_is (o ∷ os) row d = by (same_data o.rdata row.rdata) refl (replaced_is os row d.1)
  where
    by : (b : Bool) → same_data o.rdata row.rdata ≡ b → rows_lacking (with_row os row) os ≡ rows_replaced os row
        → rows_lacking (cond b (row ∷ os) (o ∷ with_row os row)) (o ∷ os) ≡ replaced_by (cond b (Some o) (list.find (λ (x : Row). same_data x.rdata row.rdata) os)) row
    by true e more =
        let here : has_row (row ∷ os) o ≡ (o.ttl == row.ttl) =
        ap (λ (b : Bool). b || has_row os o) (row_equiv.symm row o)
        ∙ (λ i. ((o.ttl == row.ttl) && e i) || none_same o os d.0 i) ∙ only_ttl (o.ttl == row.ttl) in
        (λ i. cond (not (here i)) (o ∷ lacking_none (row ∷ os) os (weaken row os os (all_there os)) i) (lacking_none (row ∷ os) os (weaken row os os (all_there os)) i))
        ∙ swapped (o.ttl == row.ttl) o
    by false e more =
        ap (λ (b : Bool). cond (not b) (o ∷ rows_lacking (o ∷ with_row os row) os) (rows_lacking (o ∷ with_row os row) os)) (all_there_first o (with_row os row))
        ∙ skip o (with_row os row) os d.0 ∙ more
      where
        all_there_first : (x : Row) (xs : List Row) → has_row (x ∷ xs) x ≡ true
        all_there_first x xs = ap (λ (b : Bool). b || has_row xs x) (row_equiv.refl x)
