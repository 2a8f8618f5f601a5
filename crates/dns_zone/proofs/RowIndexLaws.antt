-- Indexes of rows, and the loops over records that are lent.
use Rattle.std.proofs.Common.{◌≡◌, ◌<◌, ◌+◌, ◌∙◌, ℕ, Bool, true, false, cond, ◌||◌, List, [], ◌∷◌, ◌++◌, map, take, length, get_or, refl, sym, ap, Option, Some}
use Rattle.std.proofs.lemmas.Grind.{flat_map-append}
use Rattle.std.proofs.lemmas.List.{append_assoc, append-nil, map-append, take_more}
use Rattle.std.proofs.lemmas.List.Elements.{filter-append}
use Rattle.std.proofs.lemmas.List.Folds.{list_any-append}
use Rattle.std.specs.Borrow.{Bor}
use Rattle.std.specs.Cmp.{both_tied, unsigned_ties}
use Rattle.std.specs.List.{filter, find, flat_map}
use Rattle.std.specs.Option.{option_copied, option_map}
use Rattle.std.specs.Prelude.{OnOk, Result, Ok, Err}
use Rattle.std.specs.Ordering.{is_eq, nat_cmp, ordering_then}
use Rattle.dns_data.specs.declared.rdata.RData.{RData}
use Rattle.dns_data.specs.internal.DataOrder.{data_tie}
use Rattle.dns_data.specs.rdata.{same_data}
use Rattle.dns_data.specs.rdata.Order.{data_cmp}
use Rattle.dns_differences.specs.Difference.{has_row, same_row}
use Rattle.dns_names.specs.Name.{DomainName}
use Rattle.dns_records.specs.Record.{Record}
use Rattle.dns_records.specs.declared.row.Row.{Row}
use Rattle.dns_zone.specs.Answer.{record_of}
use Rattle.dns_updates.specs.declared.changes.changed_set.ChangedSet.{ChangedSet}
use Rattle.dns_zone.specs.Rows.{Rows, row_of, rows_of}
use Rattle.dns_zone.specs.internal.Change.{has_entry, lent_rows, owner_of, records_added, records_deleted, rows_before, rows_lacking}

-- ---- one more item

pub flat_more : {A B : Type 0} (f : A → List B) (xs : List A) (i : ℕ) (x : A) (now new : List B) → i < length xs → x ≡ get_or xs i x → now ≡ flat_map f (take i xs)
    → new ≡ now ++ f x → new ≡ flat_map f (take (i + 1) xs)
flat_more f xs i x now new below is so_far e =
    e ∙ ap (λ l. l ++ f x) so_far
    ∙ ap (λ l. flat_map f (take i xs) ++ l) (sym (append-nil (f x)))
    ∙ sym (flat_map-append f (take i xs) (x ∷ []))
    ∙ ap (λ y. flat_map f (take i xs ++ y ∷ [])) is
    ∙ ap (flat_map f) (sym (take_more xs i x below))

-- the rows of records that are lent
pub lent_of : (lent : List (Bor Record)) → lent_rows lent ≡ rows_of (map (λ (r : Bor Record). r.now) lent)
lent_of [] = refl
lent_of (r ∷ rs) = ap (λ l. row_of r.now ∷ l) (lent_of rs)

lent_more : (rs : List (Bor Record)) (i : ℕ) (x : Bor Record) → i < length rs → x ≡ get_or rs i x → lent_rows (take (i + 1) rs) ≡ lent_rows (take i rs) ++ row_of x.now ∷ []
lent_more rs i x below is =
    ap lent_rows (take_more rs i x below) ∙ map-append (λ (r : Bor Record). row_of r.now) (take i rs) _
    ∙ ap (λ (y : Bor Record). lent_rows (take i rs) ++ row_of y.now ∷ []) (sym is)

-- the first row of records with the same data as another
found_rows : (rdata : RData) (stored : List Record) → option_map row_of (find (λ (x : Record). same_data x.rdata rdata) stored) ≡ find (λ (x : Row). same_data x.rdata rdata) (rows_of stored)
found_rows rdata [] = refl
found_rows rdata (r ∷ rs) = by (same_data r.rdata rdata) (found_rows rdata rs)
  where
    by : (b : Bool) → option_map row_of (find (λ (x : Record). same_data x.rdata rdata) rs) ≡ find (λ (x : Row). same_data x.rdata rdata) (rows_of rs)
        → option_map row_of (cond b (Some r) (find (λ (x : Record). same_data x.rdata rdata) rs)) ≡ cond b (Some (row_of r)) (find (λ (x : Row). same_data x.rdata rdata) (rows_of rs))
    by true more = refl
    by false more = more

pub found_row : (rdata : RData) (stored : List Record) (r : Option (Bor Record)) → option_copied r ≡ find (λ (x : Record). same_data x.rdata rdata) stored
    → option_map row_of (option_copied r) ≡ find (λ (x : Row). same_data x.rdata rdata) (rows_of stored)
found_row rdata stored r e = ap (option_map row_of) e ∙ found_rows rdata stored

-- ---- an index

-- rows are the same where they tie
row_tie : (a b : Row) → same_row a b ≡ is_eq (ordering_then (nat_cmp a.ttl b.ttl) (data_cmp a.rdata b.rdata))
row_tie a b = both_tied _ _ _ _ (unsigned_ties a.ttl b.ttl) (data_tie a.rdata b.rdata)

or_turned : (a b c : Bool) → a ≡ b → cond a true c ≡ (c || b)
or_turned true true true e = refl
or_turned true true false e = refl
or_turned false false true e = refl
or_turned false false false e = refl
or_turned true false c e = absurd (cc)
or_turned false true c e = absurd (cc)

pub entry_inserted : (x row : Row) (before after : Bool) → after ≡ cond (is_eq (ordering_then (nat_cmp x.ttl row.ttl) (data_cmp x.rdata row.rdata))) true before
    → after ≡ (before || same_row x row)
entry_inserted x row before after e = e ∙ or_turned _ (same_row x row) before (sym (row_tie x row))

or_last : (b c : Bool) → (b || c) ≡ (b || (c || false))
or_last true c = refl
or_last false true = refl
or_last false false = refl

pub entry_more : (old new : List (ℕ × Bor RData)) (rs : List (Bor Record)) (i : ℕ) (x : Bor Record) → i < length rs → x ≡ get_or rs i x
    → ((row : Row) → has_entry new row ≡ (has_entry old row || same_row (row_of x.now) row))
    → ((row : Row) → has_entry old row ≡ has_row (lent_rows (take i rs)) row)
    → (row : Row) → has_entry new row ≡ has_row (lent_rows (take (i + 1) rs)) row
entry_more old new rs i x below is inserted so_far row =
    inserted row
    ∙ ap (λ (b : Bool). b || same_row (row_of x.now) row) (so_far row)
    ∙ or_last (has_row (lent_rows (take i rs)) row) (same_row (row_of x.now) row)
    ∙ sym (list_any-append (λ y. same_row y row) (lent_rows (take i rs)) (row_of x.now ∷ []))
    ∙ ap (λ (l : List Row). has_row l row) (sym (lent_more rs i x below is))

-- ---- records that are copied

pub filter_alike : {A : Type 0} (p q : A → Bool) → ((x : A) → p x ≡ q x) → (xs : List A) → filter p xs ≡ filter q xs
filter_alike p q same [] = refl
filter_alike p q same (x ∷ xs) = λ i. cond (same x i) (x ∷ filter_alike p q same xs i) (filter_alike p q same xs i)

-- copies of the rows that pass a test
abbrev pub kept : (Row → Bool) → DomainName → List (Bor Record) → List Record
kept p owner rs = map (record_of owner) (filter p (lent_rows rs))

kept_more : (p : Row → Bool) (owner : DomainName) (rs : List (Bor Record)) (i : ℕ) (x : Bor Record) → i < length rs → x ≡ get_or rs i x
    → kept p owner (take (i + 1) rs) ≡ kept p owner (take i rs) ++ map (record_of owner) (cond (p (row_of x.now)) (row_of x.now ∷ []) [])
kept_more p owner rs i x below is =
    ap (λ (l : List Row). map (record_of owner) (filter p l)) (lent_more rs i x below is)
    ∙ ap (map (record_of owner)) (filter-append p (lent_rows (take i rs)) (row_of x.now ∷ []))
    ∙ map-append (record_of owner) (filter p (lent_rows (take i rs))) _

pub one_kept : (p : Row → Bool) (owner : DomainName) (start now new : List Record) (rs : List (Bor Record)) (i : ℕ) (x : Bor Record) (copy : Record) → i < length rs → x ≡ get_or rs i x
    → p (row_of x.now) ≡ true → copy ≡ record_of owner (row_of x.now) → now ≡ start ++ kept p owner (take i rs) → new ≡ now ++ copy ∷ []
    → new ≡ start ++ kept p owner (take (i + 1) rs)
one_kept p owner start now new rs i x copy below is passes copied so_far e =
    e ∙ (λ j. so_far j ++ copied j ∷ [])
    ∙ append_assoc start (kept p owner (take i rs)) (record_of owner (row_of x.now) ∷ [])
    ∙ ap (λ (b : Bool). start ++ (kept p owner (take i rs) ++ map (record_of owner) (cond b (row_of x.now ∷ []) []))) (sym passes)
    ∙ ap (λ (l : List Record). start ++ l) (sym (kept_more p owner rs i x below is))

pub none_kept : (p : Row → Bool) (owner : DomainName) (start now : List Record) (rs : List (Bor Record)) (i : ℕ) (x : Bor Record) → i < length rs → x ≡ get_or rs i x
    → p (row_of x.now) ≡ false → now ≡ start ++ kept p owner (take i rs) → now ≡ start ++ kept p owner (take (i + 1) rs)
none_kept p owner start now rs i x below is fails so_far =
    so_far
    ∙ ap (λ (l : List Record). start ++ l) (sym (append-nil (kept p owner (take i rs))))
    ∙ ap (λ (b : Bool). start ++ (kept p owner (take i rs) ++ map (record_of owner) (cond b (row_of x.now ∷ []) []))) (sym fails)
    ∙ ap (λ (l : List Record). start ++ l) (sym (kept_more p owner rs i x below is))

-- ---- results

pub held : {A E : Type 0} (P : Type 0) (r : Result A E) → P → OnOk r P
held P (Ok x) p = p
held P (Err e) p = tt

pub shown : {A E : Type 0} (P Q : Type 0) (r : Result A E) → (P → Q) → OnOk r P → OnOk r Q
shown P Q (Ok x) f p = f p
shown P Q (Err e) f p = tt

-- ---- the records of a changed set

pub pushed_deleted : (rows : Rows) (c : ChangedSet) (owner : DomainName) (old new : List (Bor Record)) (before after : List Record) → owner ≡ owner_of c
    → lent_rows old ≡ rows_before rows c → map (λ (r : Bor Record). r.now) new ≡ c.records
    → after ≡ before ++ map (record_of owner) (rows_lacking (lent_rows new) (lent_rows old)) → after ≡ before ++ records_deleted rows c
pushed_deleted rows c owner old new before after is at lends e =
    e ∙ (λ i. before ++ map (record_of (is i)) (rows_lacking ((lent_of new ∙ ap rows_of lends) i) (at i)))

pub pushed_added : (rows : Rows) (c : ChangedSet) (owner : DomainName) (old new : List (Bor Record)) (before after : List Record) → owner ≡ owner_of c
    → lent_rows old ≡ rows_before rows c → map (λ (r : Bor Record). r.now) new ≡ c.records
    → after ≡ before ++ map (record_of owner) (rows_lacking (lent_rows old) (lent_rows new)) → after ≡ before ++ records_added rows c
pushed_added rows c owner old new before after is at lends e =
    e ∙ (λ i. before ++ map (record_of (is i)) (rows_lacking (at i) ((lent_of new ∙ ap rows_of lends) i)))
