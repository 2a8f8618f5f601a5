-- One record that is put into its set does what an update does.
use Rattle.std.proofs.lemmas.Bool.Decides.{nat_tests}
use Rattle.std.specs.Prelude.{OnErr, OnOk, Result, Ok, Err}
use Rattle.std.proofs.Common.{◌≡◌, ◌==◌, ◌∙◌, ℕ, suc, arith, Bool, true, false, cond, not, ◌&&◌, ◌||◌, List, [], ◌∷◌, length, refl, sym, ap, Option, Some, None, is_some}
use Rattle.std.specs.FinMap as rows_map
use Rattle.std.specs.List.{fold}
use Rattle.std.specs.Ordering.{eq_by_cmp}
use Rattle.dns_names.specs.Name.{DomainName}
use Rattle.dns_data.specs.rdata.{data_type, same_data}
use Rattle.dns_messages.specs.declared.message.Message.{Message}
use Rattle.dns_records.specs.declared.row.Row.{Row}
use Rattle.dns_records.specs.Record.{Record}
use Rattle.dns_records.specs.RecordSet.{RecordSetValue, put, record_data}
use Rattle.dns_records.specs.Rows.{key_of, set_of, type_of_record, with_set}
use Rattle.dns_updates.specs.declared.changes.changed_set.ChangedSet.{ChangedSet}
use Rattle.dns_updates.specs.Change.{change, update_change, with_row}
use Rattle.dns_updates.specs.Changes.{overlay}
use Rattle.dns_updates.proofs.PutLaws.{put_rows}
use Rattle.dns_updates.proofs.UpdateLaws.Maps.{same_key}
use Rattle.dns_zone.specs.Rows.{Key, key_cmp, rows_of, row_of, rows_of_sets}
use Rattle.dns_zone.specs.Sets.{set_at, with_put, with_records}
use Rattle.dns_zone.specs.internal.Store.{changed_at, has_key, is_empty_set, or_reserved, or_stored}
use Rattle.dns_zone.proofs.RowLaws.{get-sets, is_some_rows, rows_found_at, no_rows_at}

-- the records of a set, or none
pub records_in : Option RecordSetValue → List Record
records_in None = []
records_in (Some s) = s.records

-- the set of a record, with the record, as a changed set
unfoldable pub single_set : List RecordSetValue → Record → ChangedSet
single_set sets r = record { name = r.name; record_type = data_type r.rdata; records = put record_data (records_in (set_at sets (key_of r))) r }

-- ---- its rows

pub rows_there : (sets : List RecordSetValue) (r : Record) (o : Option RecordSetValue) → o ≡ set_at sets (key_of r) → rows_of (records_in o) ≡ set_of (rows_of_sets sets) r
unfolding records_in
rows_there sets r None is = sym (no_rows_at sets r.name.labels (type_of_record r) is)
rows_there sets r (Some s) is = sym (rows_found_at sets r.name.labels (type_of_record r) s is)

pub single_overlay : (sets : List RecordSetValue) (r : Record)
    → overlay (rows_of_sets sets) (single_set sets r ∷ []) ≡ with_set (rows_of_sets sets) (key_of r) (with_row (set_of (rows_of_sets sets) r) (row_of r))
unfolding single_set
single_overlay sets r =
    ap (λ (rows : List Row). with_set (rows_of_sets sets) (key_of r) rows)
    (put_rows (records_in (set_at sets (key_of r))) r ∙ ap (λ (rows : List Row). with_row rows (row_of r)) (rows_there sets r (set_at sets (key_of r)) refl))

-- ---- it is stored

no_zero : (n : ℕ) → (suc n == 0) ≡ false
no_zero n = grind (arith, nat_tests)

put_some : (xs : List Record) (r : Record) → (length (put record_data xs r) == 0) ≡ false
put_some [] r = no_zero 0
put_some (x ∷ xs) r = by (same_data x.rdata r.rdata)
  where
    by : (b : Bool) → (length (cond b (r ∷ xs) (x ∷ put record_data xs r)) == 0) ≡ false
    by true = no_zero (length xs)
    by false = no_zero (length (put record_data xs r))

hit_by : (b : Bool) (c : ChangedSet) (s : RecordSetValue) → b ≡ true → (length c.records == 0) ≡ false
    → cond ((b || false) && is_empty_set (or_stored (cond b (Some c) None) (Some s))) None (or_stored (cond b (Some c) None) (Some s)) ≡ Some (record s { records = c.records })
hit_by true c s e filled = ap (λ z. cond z None (Some (record s { records = c.records }))) filled
hit_by false c s e filled = absurd (cc)

miss_by : (full b : Bool) (c : ChangedSet) (o : Option RecordSetValue) → b ≡ false
    → cond ((b || false) && is_empty_set (or_stored (cond b (Some c) None) (or_reserved (cond (full && b) (Some c) None) o))) None (or_stored (cond b (Some c) None) (or_reserved (cond (full && b) (Some c) None) o)) ≡ o
miss_by full true c o e = absurd (cc)
miss_by true false c None e = refl
miss_by true false c (Some s) e = refl
miss_by false false c None e = refl
miss_by false false c (Some s) e = refl

hit : (sets : List RecordSetValue) (r : Record) (k : Key) (o : Option RecordSetValue) → o ≡ set_at sets (key_of r) → is_some o ≡ true → has_key k (single_set sets r) ≡ true
    → with_put r o ≡ changed_at (single_set sets r ∷ []) k o
unfolding single_set records_in
hit sets r k None is some here = absurd (cc)
hit sets r k (Some s) is some here =
    ap (λ (there : Option RecordSetValue). Some (record s { records = put record_data (records_in there) r })) is
    ∙ sym (hit_by (has_key k (single_set sets r)) (single_set sets r) s here (put_some (records_in (set_at sets (key_of r))) r))

pub single_steps : (old new : List RecordSetValue) (r : Record) → is_some (set_at old (key_of r)) ≡ true
    → ((k : Key) → set_at new k ≡ cond (eq_by_cmp key_cmp k (key_of r)) (with_put r (set_at old k)) (set_at old k))
    → (k : Key) → set_at new k ≡ changed_at (single_set old r ∷ []) k (set_at old k)
unfolding single_set
single_steps old new r some steps k = steps k ∙ by (eq_by_cmp key_cmp k (key_of r)) refl
  where
    by : (b : Bool) → eq_by_cmp key_cmp k (key_of r) ≡ b → cond b (with_put r (set_at old k)) (set_at old k) ≡ changed_at (single_set old r ∷ []) k (set_at old k)
    by true t =
        let here : set_at old k ≡ set_at old (key_of r) = ap (set_at old) (same_key k (key_of r) t) in
        hit old r k (set_at old k) here (ap is_some here ∙ some) t
    by false t = sym (miss_by (not (length (single_set old r).records == 0)) (has_key k (single_set old r)) (single_set old r) (set_at old k) t)

-- ---- what is written

-- whether or not the set has the record, it has its name and type
pub either : {T E : Type 0} (result : Result T E) (new old : RecordSetValue) (records : List Record) → OnOk result (new ≡ record old { records = records }) → OnErr result (new ≡ old)
    → (some : List Record) × (new ≡ record old { records = some })
either (Ok x) new old records ok err = (records, ok)
either (Err x) new old records ok err = (old.records, err)

pub err_weaker : {T E P Q : Type 0} (result : Result T E) → (P → Q) → OnErr result P → OnErr result Q
err_weaker (Ok x) f p = tt
err_weaker (Err x) f p = f p

pub put_at : (sets : List RecordSetValue) (q k : Key) (old : RecordSetValue) (r : Record) → set_at sets q ≡ Some old
    → cond (eq_by_cmp key_cmp k q) (with_records (put record_data old.records r) (set_at sets k)) (set_at sets k) ≡ cond (eq_by_cmp key_cmp k q) (with_put r (set_at sets k)) (set_at sets k)
put_at sets q k old r found = by (eq_by_cmp key_cmp k q) refl
  where
    by : (b : Bool) → eq_by_cmp key_cmp k q ≡ b → cond b (with_records (put record_data old.records r) (set_at sets k)) (set_at sets k) ≡ cond b (with_put r (set_at sets k)) (set_at sets k)
    by true t =
        let here : set_at sets k ≡ Some old = ap (set_at sets) (same_key k q t) ∙ found in
        ap (with_records (put record_data old.records r)) here ∙ sym (ap (with_put r) here)
    by false t = refl

pub same_at : (sets : List RecordSetValue) (q k : Key) (old : RecordSetValue) → set_at sets q ≡ Some old
    → cond (eq_by_cmp key_cmp k q) (with_records old.records (set_at sets k)) (set_at sets k) ≡ set_at sets k
same_at sets q k old found = by (eq_by_cmp key_cmp k q) refl
  where
    by : (b : Bool) → eq_by_cmp key_cmp k q ≡ b → cond b (with_records old.records (set_at sets k)) (set_at sets k) ≡ set_at sets k
    by true t =
        let here : set_at sets k ≡ Some old = ap (set_at sets) (same_key k q t) ∙ found in
        ap (with_records old.records) here ∙ sym here
    by false t = refl

pub none_put : (sets : List RecordSetValue) (q k : Key) (r : Record) → set_at sets q ≡ None
    → set_at sets k ≡ cond (eq_by_cmp key_cmp k q) (with_put r (set_at sets k)) (set_at sets k)
none_put sets q k r none = by (eq_by_cmp key_cmp k q) refl
  where
    by : (b : Bool) → eq_by_cmp key_cmp k q ≡ b → set_at sets k ≡ cond b (with_put r (set_at sets k)) (set_at sets k)
    by true t =
        let here : set_at sets k ≡ None = ap (set_at sets) (same_key k q t) ∙ none in
        here ∙ sym (ap (with_put r) here)
    by false t = refl

-- ---- the update

-- a set that is there
pub some_set : (sets : List RecordSetValue) (k : Key) → rows_map.contains_key (rows_of_sets sets) k ≡ true → is_some (set_at sets k) ≡ true
some_set sets k there = sym (is_some_rows (set_at sets k)) ∙ sym (ap is_some (get-sets sets k)) ∙ there

pub single_change : (origin : DomainName) (sets : List RecordSetValue) (m : Message) (r : Record) → m.authorities ≡ r ∷ []
    → change origin (rows_of_sets sets) r ≡ with_set (rows_of_sets sets) (key_of r) (with_row (set_of (rows_of_sets sets) r) (row_of r))
    → overlay (rows_of_sets sets) (single_set sets r ∷ []) ≡ update_change origin (rows_of_sets sets) m
single_change origin sets m r only changes =
    single_overlay sets r ∙ sym changes ∙ ap (λ (rs : List Record). fold (change origin) (rows_of_sets sets) rs) (sym only)
