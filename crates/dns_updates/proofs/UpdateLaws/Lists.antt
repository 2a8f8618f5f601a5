-- Lists of rows: additions of new data, and deletions.
use Rattle.dns_records.specs.Rows.{row_of, rows_of}
use Rattle.std.proofs.Common.{◌≡◌, Bool, true, false, cond, not, ◌&&◌, ◌||◌, List, [], ◌∷◌, ◌++◌, map, refl, sym, ap, ◌∙◌, append_assoc}
use Rattle.std.specs.List.{fold, filter, list_all, AllByRecursion, IsDistinct}
use Rattle.dns_data.specs.rdata.{same_data}
use Rattle.dns_records.specs.declared.row.Row.{Row}
use Rattle.dns_records.specs.Record.{Record}
use Rattle.dns_updates.specs.Records.{is_among}
use Rattle.dns_updates.specs.Change.{with_row, without_data}
use Rattle.dns_updates.specs.Builders.{data_of, as_deletions}
use Rattle.dns_records.specs.RecordSet.{each_with_ttl}

-- ---- tests of all items

pub all_map : {A : Type 0} {P Q : A → Type 0} → ((x : A) → P x → Q x) → (xs : List A) → AllByRecursion P xs → AllByRecursion Q xs
all_map f [] all = tt
all_map f (x ∷ xs) all = (f x all.0, all_map f xs all.1)

pub filter_all : {A : Type 0} (p : A → Bool) (xs : List A) → AllByRecursion (λ x. p x ≡ true) xs → filter p xs ≡ xs
filter_all p [] all = refl
filter_all p (x ∷ xs) all = ap (λ b. cond b (x ∷ filter p xs) (filter p xs)) all.0 ∙ ap (λ ys. x ∷ ys) (filter_all p xs all.1)

-- ---- additions

-- none of the rows has data of the records
abbrev pub Apart : List Row → List Record → Type 0
Apart base rs = AllByRecursion (λ (old : Row). AllByRecursion (λ (r : Record). same_data old.rdata r.rdata ≡ false) rs) base

pub apart_empty : (rs : List Record) → Apart [] rs
apart_empty rs = tt

with_row_new : (base : List Row) (row : Row) → AllByRecursion (λ (old : Row). same_data old.rdata row.rdata ≡ false) base → with_row base row ≡ base ++ row ∷ []
with_row_new [] row all = refl
with_row_new (old ∷ more) row all = ap (λ b. cond b (row ∷ more) (old ∷ with_row more row)) all.0 ∙ ap (λ xs. old ∷ xs) (with_row_new more row all.1)

apart_push : (base : List Row) (r : Record) (rs : List Record) → Apart base (r ∷ rs) → AllByRecursion (λ (x : Record). same_data r.rdata x.rdata ≡ false) rs → Apart (base ++ row_of r ∷ []) rs
apart_push [] r rs all new = (new, tt)
apart_push (old ∷ more) r rs all new = (all.0.1, apart_push more r rs all.1 new)

abbrev pub add : List Row → Record → List Row
add s r = with_row s (row_of r)

pub fold_add : (rs : List Record) (base : List Row) → Apart base rs → IsDistinct (λ (a b : Record). same_data a.rdata b.rdata) rs → fold add base rs ≡ base ++ rows_of rs
unfolding IsDistinct
fold_add [] base apart distinct = sym (append_nil base)
  where
    append_nil : (xs : List Row) → xs ++ [] ≡ xs
    append_nil [] = refl
    append_nil (x ∷ xs) = ap (λ ys. x ∷ ys) (append_nil xs)
fold_add (r ∷ rs) base apart distinct =
    let first : AllByRecursion (λ (old : Row). same_data old.rdata r.rdata ≡ false) base = all_map (λ old h. h.0) base apart in
    ap (λ s. fold add s rs) (with_row_new base (row_of r) first)
    ∙ fold_add rs (base ++ row_of r ∷ []) (apart_push base r rs apart distinct.0) distinct.1
    ∙ append_assoc base (row_of r ∷ []) (rows_of rs)

pub fold_rows : (rs : List Record) (base : List Row) → fold add base rs ≡ fold with_row base (rows_of rs)
fold_rows [] base = refl
fold_rows (r ∷ rs) base = fold_rows rs (with_row base (row_of r))

-- ---- deletions

abbrev pub delete : List Row → Record → List Row
delete s r = without_data s r.rdata

abbrev pub remaining : List Record → List Row → List Row
remaining rs base = filter (λ (row : Row). not (is_among (data_of rs) row.rdata)) base

filter_both : {A : Type 0} (p q : A → Bool) (xs : List A) → filter (λ x. not (q x)) (filter (λ x. not (p x)) xs) ≡ filter (λ x. not (p x || q x)) xs
filter_both p q [] = refl
filter_both p q (x ∷ xs) =
    elim (p x) as (λ b. filter (λ x. not (q x)) (cond (not b) (x ∷ filter (λ x. not (p x)) xs) (filter (λ x. not (p x)) xs)) ≡ cond (not (b || q x)) (x ∷ filter (λ x. not (p x || q x)) xs) (filter (λ x. not (p x || q x)) xs)) [
      | true ↦ filter_both p q xs
      | false ↦ ap (λ ys. cond (not (q x)) (x ∷ ys) ys) (filter_both p q xs)
    ]

filter_none : {A : Type 0} (xs : List A) → filter (λ x. not false) xs ≡ xs
filter_none [] = refl
filter_none (x ∷ xs) = ap (λ ys. x ∷ ys) (filter_none xs)

pub fold_delete : (rs : List Record) (base : List Row) → fold delete base (as_deletions rs) ≡ remaining rs base
fold_delete [] base = sym (filter_none base)
fold_delete (r ∷ rs) base =
    fold_delete rs (without_data base r.rdata)
    ∙ filter_both (λ (row : Row). same_data row.rdata r.rdata) (λ (row : Row). is_among (data_of rs) row.rdata) base

-- all rows have data of the records
and_first : (a b : Bool) → (a && b) ≡ true → a ≡ true
and_first true b e = refl
and_first false b e = absurd (cc)

and_second : (a b : Bool) → (a && b) ≡ true → b ≡ true
and_second true b e = e
and_second false b e = absurd (cc)

pub none_remain : (rs : List Record) (base : List Row) → list_all (is_among (data_of rs)) (map (λ (row : Row). row.rdata) base) ≡ true → remaining rs base ≡ []
none_remain rs [] all = refl
none_remain rs (x ∷ xs) all =
    ap (λ b. cond (not b) (x ∷ remaining rs xs) (remaining rs xs)) (and_first (is_among (data_of rs) x.rdata) _ all)
    ∙ none_remain rs xs (and_second (is_among (data_of rs) x.rdata) _ all)

pub none_remain_equal : (rs : List Record) (base : List Row) (b : Bool) → (b && list_all (is_among (data_of rs)) (map (λ (row : Row). row.rdata) base)) ≡ true → remaining rs base ≡ []
none_remain_equal rs base b all = none_remain rs base (and_second b _ all)

-- ---- parts of records

pub data_of_untimed : (rs : List Record) → data_of (each_with_ttl 0 rs) ≡ data_of rs
data_of_untimed [] = refl
data_of_untimed (r ∷ rs) = ap (λ ds. r.rdata ∷ ds) (data_of_untimed rs)

pub fold_append : {A B : Type 0} (f : B → A → B) (b : B) (xs ys : List A) → fold f b (xs ++ ys) ≡ fold f (fold f b xs) ys
fold_append f b [] ys = refl
fold_append f b (x ∷ xs) ys = fold_append f (f b x) xs ys
