-- Whether the records of a zone have changed, by the difference of two versions.
use Rattle.std.proofs.Common.{◌≡◌, ◌==◌, ◌∙◌, ℕ, Bool, true, false, not, ◌&&◌, ◌||◌, List, [], ◌∷◌, ◌++◌, length, refl, sym, ap, suc, arith, Option, Some, None, is_some, unwrap_or}
use Rattle.std.specs.Prelude.{IfSome}
use Rattle.std.proofs.lemmas.Bool.Decides.{nat_tests}
use Rattle.std.proofs.lemmas.List.Folds.{list_any-append}
use Rattle.std.specs.FinMap as rows_map
use Rattle.std.specs.List.{list_all, list_any, AllByRecursion}
use Rattle.std.specs.Ordering.{eq_by_cmp}
use Rattle.dns_wire.specs.codes.RecordType.{type_number}
use Rattle.dns_wire.specs.declared.codes.record_type.RecordType.TheVariants as types
use Rattle.dns_data.specs.rdata.{data_type}
use Rattle.dns_differences.specs.Difference.{has_row, in_zone, is_among, is_empty, same_in_zone, same_row, IsDifference}
use Rattle.dns_differences.specs.declared.difference.Difference.{Difference}
use Rattle.dns_differences.proofs.RecordLaws.{record_equiv, same_key}
use Rattle.dns_names.specs.Compare.{lower, same_labels}
use Rattle.dns_names.specs.Name.{DomainName}
use Rattle.dns_records.specs.Record.{Record}
use Rattle.dns_records.specs.Rows.{key_of, row_of, type_of_record}
use Rattle.dns_records.specs.declared.row.Row.{Row}
use Rattle.dns_updates.specs.Records.{is_of_type}
use Rattle.dns_zone.specs.Answer.{record_of}
use Rattle.dns_zone.specs.Changed.{are_alike, has_changed, has_changed_at, rows_by_key}
use Rattle.dns_zone.specs.Maintained.{is_due}
use Rattle.dns_zone.specs.Rising.{start_key}
use Rattle.dns_zone.specs.Rows.{Key, Rows, ZoneContent, key, key_cmp, AreRowsAt, IsZone}
use Rattle.dns_zone.specs.internal.Rise.{changes_start, has_start, is_due_by, HasLowerKeys}
use Rattle.dns_zone.proofs.DifferenceLaws.{rows_alike}
use Rattle.dns_zone.proofs.PutRowLaws.{all_there}
use Rattle.dns_zone.proofs.RowLaws.{keys_tie, same_lower}

-- ---- tests

true_false : true ≡ false → ⊥
true_false e = cc

pub two : (a b : Bool) → (a && b) ≡ true → (a ≡ true) × (b ≡ true)
two true b e = (refl, e)
two false b e = absurd (cc)

pub neither : (a b : Bool) → (a || b) ≡ false → (a ≡ false) × (b ≡ false)
neither true b e = absurd (cc)
neither false b e = (refl, e)

not_false : (b : Bool) → not b ≡ false → b ≡ true
not_false true e = refl
not_false false e = absurd (cc)

must : (a b : Bool) → a ≡ true → (a && not b) ≡ false → b ≡ true
must true true e f = refl
must true false e f = absurd (cc)
must false b e f = absurd (cc)

-- tests that fail together are the same
same_bool : (a b : Bool) → (a ≡ false → b ≡ false) → (b ≡ false → a ≡ false) → a ≡ b
same_bool true true f g = refl
same_bool true false f g = g refl
same_bool false true f g = sym (f refl)
same_bool false false f g = refl

none_any : {A : Type 0} (f : A → Bool) → ((x : A) → f x ≡ false) → (xs : List A) → list_any f xs ≡ false
none_any f none [] = refl
none_any f none (x ∷ xs) = λ i. none x i || none_any f none xs i

-- ---- rows that two versions have

rows_in : (xs ys : List Row) (row : Row) → list_all (has_row ys) xs ≡ true → has_row xs row ≡ true → has_row ys row ≡ true
rows_in [] ys row all has = absurd (cc)
rows_in (x ∷ xs) ys row all has = by (same_row x row) refl (rows_in xs ys row parts.1) has
  where
    parts : (has_row ys x ≡ true) × (list_all (has_row ys) xs ≡ true)
    parts = two (has_row ys x) (list_all (has_row ys) xs) all

    by : (b : Bool) → same_row x row ≡ b → (has_row xs row ≡ true → has_row ys row ≡ true) → (b || has_row xs row) ≡ true → has_row ys row ≡ true
    by true e more h = sym (rows_alike ys x row e) ∙ parts.0
    by false e more h = more h

-- whether a version has lost a record
abbrev pub is_lost : Rows → Rows → Record → Bool
is_lost old new r = in_zone old r && not (in_zone new r)

module _ (old new : Rows) (k : Key) (owner : DomainName) (kept : (r : Record) → key_of r ≡ k → is_lost old new r ≡ false) where
  all_in : (xs : List Row) → AllByRecursion (λ y. key_of (record_of owner y) ≡ k) xs → AllByRecursion (λ y. has_row (rows_by_key old k) y ≡ true) xs
      → list_all (has_row (rows_by_key new k)) xs ≡ true
  all_in [] keys there = refl
  all_in (y ∷ ys) keys there = λ i. here i && all_in ys keys.1 there.1 i
    where
      here : has_row (rows_by_key new k) y ≡ true
      here =
          ap (λ (q : Key). has_row (rows_by_key new q) y) (sym keys.0)
          ∙ must (in_zone old (record_of owner y)) (in_zone new (record_of owner y))
          (ap (λ (q : Key). has_row (rows_by_key old q) y) keys.0 ∙ there.0) (kept (record_of owner y) keys.0)

-- ---- the records of a key

-- a name with the labels of a key
abbrev name_at : Key → DomainName
name_at k = record { is_fqdn = true; labels = k.0 }

each_keyed : (k : Key) → lower k.0 ≡ k.0 → (ys : List Row) → AllByRecursion (λ (y : Row). type_number (data_type y.rdata) ≡ k.1) ys
    → AllByRecursion (λ y. key_of (record_of (name_at k) y) ≡ k) ys
each_keyed k low [] all = tt
each_keyed k low (y ∷ ys) all = ((λ i. (low i, all.0 i)), each_keyed k low ys all.1)

rows_keyed : (zone : ZoneContent) (k : Key) → IsZone zone → HasLowerKeys zone.rows → AllByRecursion (λ y. key_of (record_of (name_at k) y) ≡ k) (rows_by_key zone.rows k)
rows_keyed zone k is low = by (rows_map.get zone.rows k) (is.rows k) (low k)
  where
    by : (o : Option (List Row)) → IfSome o (AreRowsAt zone.origin k) → IfSome o (λ found. lower k.0 ≡ k.0) → AllByRecursion (λ y. key_of (record_of (name_at k) y) ≡ k) (unwrap_or o [])
    by None h e = tt
    by (Some rows) h e = each_keyed k e rows h.of_type

-- ---- rows at a key, by the records that have changed

module _ (old new : ZoneContent) (is_old : IsZone old) (is_new : IsZone new) (low_old : HasLowerKeys old.rows) (low_new : HasLowerKeys new.rows) where
  same_if : (k : Key) → ((r : Record) → key_of r ≡ k → is_lost old.rows new.rows r ≡ false) → ((r : Record) → key_of r ≡ k → is_lost new.rows old.rows r ≡ false)
      → has_changed_at old.rows new.rows k ≡ false
  same_if k lost gained =
      λ i. not (all_in new.rows old.rows k (name_at k) gained (rows_by_key new.rows k) (rows_keyed new k is_new low_new) (all_there (rows_by_key new.rows k)) i
      && all_in old.rows new.rows k (name_at k) lost (rows_by_key old.rows k) (rows_keyed old k is_old low_old) (all_there (rows_by_key old.rows k)) i)

module _ (old new : Rows) (k : Key) (same : has_changed_at old new k ≡ false) where
  both_in : (list_all (has_row (rows_by_key old k)) (rows_by_key new k) ≡ true) × (list_all (has_row (rows_by_key new k)) (rows_by_key old k) ≡ true)
  both_in = two (list_all (has_row (rows_by_key old k)) (rows_by_key new k)) (list_all (has_row (rows_by_key new k)) (rows_by_key old k)) (not_false (are_alike (rows_by_key old k) (rows_by_key new k)) same)

  pub none_lost : (r : Record) → key_of r ≡ k → is_lost old new r ≡ false
  none_lost r at = by (in_zone old r) refl
    where
      by : (b : Bool) → in_zone old r ≡ b → (b && not (in_zone new r)) ≡ false
      by true e = ap not (
          ap (λ (q : Key). has_row (rows_by_key new q) (row_of r)) at
          ∙ rows_in (rows_by_key old k) (rows_by_key new k) (row_of r) both_in.1 (ap (λ (q : Key). has_row (rows_by_key old q) (row_of r)) (sym at) ∙ e)
          )
      by false e = refl

  pub none_gained : (r : Record) → key_of r ≡ k → is_lost new old r ≡ false
  none_gained r at = by (in_zone new r) refl
    where
      by : (b : Bool) → in_zone new r ≡ b → (b && not (in_zone old r)) ≡ false
      by true e = ap not (
          ap (λ (q : Key). has_row (rows_by_key old q) (row_of r)) at
          ∙ rows_in (rows_by_key new k) (rows_by_key old k) (row_of r) both_in.0 (ap (λ (q : Key). has_row (rows_by_key new q) (row_of r)) (sym at) ∙ e)
          )
      by false e = refl

-- ---- keys

any_tied : (f : Key → Bool) (k : Key) (ks : List Key) → f k ≡ true → list_any (eq_by_cmp key_cmp k) ks ≡ true → list_any f ks ≡ true
any_tied f k [] here some = absurd (cc)
any_tied f k (q ∷ qs) here some = by (eq_by_cmp key_cmp k q) refl some (any_tied f k qs here)
  where
    or_true : (a b : Bool) → b ≡ true → (a || b) ≡ true
    or_true true b e = refl
    or_true false b e = e

    by : (b : Bool) → eq_by_cmp key_cmp k q ≡ b → (b || list_any (eq_by_cmp key_cmp k) qs) ≡ true → (list_any (eq_by_cmp key_cmp k) qs ≡ true → list_any f qs ≡ true) → (f q || list_any f qs) ≡ true
    by true e h more = ap (λ (b : Bool). b || list_any f qs) (ap f (sym (same_key k q e)) ∙ here)
    by false e h more = or_true (f q) (list_any f qs) (more h)

has_some : (o : Option (List Row)) (row : Row) → has_row (unwrap_or o []) row ≡ true → is_some o ≡ true
has_some None row e = absurd (cc)
has_some (Some rows) row e = refl

-- a key at which rows have a record is among their keys
any_key : (f : Key → Bool) (rows : Rows) (r : Record) → in_zone rows r ≡ true → f (key_of r) ≡ true → list_any f (rows_map.keys rows) ≡ true
any_key f rows r there here =
    any_tied f (key_of r) (rows_map.keys rows) here (sym (rows_map.contains_key-keys rows (key_of r)) ∙ has_some (rows_map.get rows (key_of r)) (row_of r) there)

-- ---- whether any record has changed

not_zero : (n : ℕ) → (suc n == 0) ≡ false
not_zero n = grind (arith, nat_tests)

first_among : (x : Record) (xs : List Record) → is_among (x ∷ xs) x ≡ true
first_among x xs = ap (λ (b : Bool). b || is_among xs x) (record_equiv.refl x)

or_right : (a b : Bool) → b ≡ true → (a || b) ≡ true
or_right true b e = refl
or_right false b e = e

or_left : (a b : Bool) → a ≡ true → (a || b) ≡ true
or_left true b e = refl
or_left false b e = absurd (cc)

to_true : (b : Bool) → (b ≡ false → ⊥) → b ≡ true
to_true true e = refl
to_true false e = absurd (e refl)

module _ (old new : Rows) where
  changed_where_lost : (r : Record) → is_lost old new r ≡ true → has_changed old new ≡ true
  changed_where_lost r lost =
      list_any-append (has_changed_at old new) (rows_map.keys old) (rows_map.keys new)
      ∙ or_left (list_any (has_changed_at old new) (rows_map.keys old)) (list_any (has_changed_at old new) (rows_map.keys new))
      (any_key (has_changed_at old new) old r (two (in_zone old r) (not (in_zone new r)) lost).0
      (to_true (has_changed_at old new (key_of r)) (λ e. true_false (sym lost ∙ none_lost old new (key_of r) e r refl))))

  pub changed_where_gained : (r : Record) → is_lost new old r ≡ true → has_changed old new ≡ true
  changed_where_gained r gained =
      list_any-append (has_changed_at old new) (rows_map.keys old) (rows_map.keys new)
      ∙ or_right (list_any (has_changed_at old new) (rows_map.keys old)) (list_any (has_changed_at old new) (rows_map.keys new))
      (any_key (has_changed_at old new) new r (two (in_zone new r) (not (in_zone old r)) gained).0
      (to_true (has_changed_at old new (key_of r)) (λ e. true_false (sym gained ∙ none_gained old new (key_of r) e r refl))))

-- ---- records of the type SOA

is_start : Record → Bool
is_start r = is_of_type types.SOA r

number_is : (n : ℕ) → (6 == n) ≡ true → n ≡ 6
number_is n e = grind (arith, nat_tests)

pub none_among : (xs : List Record) (r : Record) → is_of_type types.SOA r ≡ true → has_start xs ≡ false → is_among xs r ≡ false
none_among [] r of_soa none = refl
none_among (x ∷ xs) r of_soa none = λ i. miss (eq_by_cmp key_cmp (key_of x) (key_of r)) refl i || none_among xs r of_soa parts.1 i
  where
    parts : (is_of_type types.SOA x ≡ false) × (has_start xs ≡ false)
    parts = neither (is_of_type types.SOA x) (has_start xs) none

    miss : (b : Bool) → eq_by_cmp key_cmp (key_of x) (key_of r) ≡ b → same_in_zone x r ≡ false
    miss true e =
        let same : key_of x ≡ key_of r = same_key (key_of x) (key_of r) e in
        absurd (true_false (sym (ap (λ (q : Key). 6 == q.1) same ∙ of_soa) ∙ parts.0))
    miss false e = ap (λ (b : Bool). b && same_row (row_of x) (row_of r)) e

-- an SOA record of a zone is at its origin
pub start_at : (zone : ZoneContent) (r : Record) → IsZone zone → in_zone zone.rows r ≡ true → is_of_type types.SOA r ≡ true → key_of r ≡ start_key zone
start_at zone r is there of_soa = by (rows_map.get zone.rows (key_of r)) (is.rows (key_of r)) there
  where
    by : (o : Option (List Row)) → IfSome o (AreRowsAt zone.origin (key_of r)) → has_row (unwrap_or o []) (row_of r) ≡ true → key_of r ≡ start_key zone
    by None h e = absurd (cc)
    by (Some rows) h e =
        let labels : same_labels zone.origin.labels r.name.labels ≡ true =
        sym (same_lower zone.origin.labels r.name.labels) ∙ h.soa_at_origin (number_is (type_number (type_of_record r)) of_soa) in
        sym (same_key (start_key zone) (key_of r) (sym (keys_tie zone.origin.labels r.name.labels types.SOA (type_of_record r)) ∙ (λ i. labels i && of_soa i)))

all_more : (x : Record) (xs ys : List Record) → AllByRecursion (λ y. is_among xs y ≡ true) ys → AllByRecursion (λ y. is_among (x ∷ xs) y ≡ true) ys
all_more x xs [] all = tt
all_more x xs (y ∷ ys) all = (or_right (same_in_zone x y) (is_among xs y) all.0, all_more x xs ys all.1)

all_among : (xs : List Record) → AllByRecursion (λ y. is_among xs y ≡ true) xs
all_among [] = tt
all_among (x ∷ xs) = (first_among x xs, all_more x xs xs (all_among xs))

-- no SOA record is in a part of a difference, if none has changed
none_start : (from to : ZoneContent) (xs : List Record) → IsZone from → ((r : Record) → is_among xs r ≡ is_lost from.rows to.rows r)
    → ((r : Record) → key_of r ≡ start_key from → is_lost from.rows to.rows r ≡ false) → has_start xs ≡ false
none_start from to xs is lost kept = each xs (all_among xs)
  where
    each : (ys : List Record) → AllByRecursion (λ y. is_among xs y ≡ true) ys → has_start ys ≡ false
    each [] all = refl
    each (y ∷ ys) all = λ i. by (is_of_type types.SOA y) refl i || each ys all.1 i
      where
        there : is_lost from.rows to.rows y ≡ true
        there = sym (lost y) ∙ all.0

        by : (b : Bool) → is_of_type types.SOA y ≡ b → b ≡ false
        by true e =
            absurd (true_false (sym there ∙ kept y (start_at from y is (two (in_zone from.rows y) (not (in_zone to.rows y)) there).0 e)))
        by false e = refl

-- ---- both

module _ (old new : ZoneContent) (d : Difference) (is_old : IsZone old) (is_new : IsZone new) (low_old : HasLowerKeys old.rows) (low_new : HasLowerKeys new.rows) (is : IsDifference old.rows new.rows d) (origin : new.origin ≡ old.origin) where
  changed_by : has_changed old.rows new.rows ≡ not (is_empty d)
  changed_by = by d.deleted.items d.added.items refl refl
    where
      by : (xs ys : List Record) → d.deleted.items ≡ xs → d.added.items ≡ ys → has_changed old.rows new.rows ≡ not ((length xs == 0) && (length ys == 0))
      by [] [] e f =
          none_any (has_changed_at old.rows new.rows)
          (λ k. same_if old new is_old is_new low_old low_new k (λ r at. sym (is.deleted r) ∙ ap (λ (l : List Record). is_among l r) e) (λ r at. sym (is.added r) ∙ ap (λ (l : List Record). is_among l r) f))
          (rows_map.keys old.rows ++ rows_map.keys new.rows)
      by (x ∷ xs) ys e f =
          changed_where_lost old.rows new.rows x (sym (is.deleted x) ∙ ap (λ (l : List Record). is_among l x) e ∙ first_among x xs)
          ∙ sym (ap (λ (b : Bool). not (b && (length ys == 0))) (not_zero (length xs)))
      by [] (y ∷ ys) e f =
          changed_where_gained old.rows new.rows y (sym (is.added y) ∙ ap (λ (l : List Record). is_among l y) f ∙ first_among y ys)
          ∙ sym (ap not (not_zero (length ys)))

  start_changed_by : has_changed_at old.rows new.rows (start_key old) ≡ changes_start d
  start_changed_by = same_bool (has_changed_at old.rows new.rows (start_key old)) (changes_start d)
      (λ same. (λ i.
      none_start old new d.deleted.items is_old is.deleted (none_lost old.rows new.rows (start_key old) same) i
      || none_start new old d.added.items is_new is.added (λ r at. none_gained old.rows new.rows (start_key old) same r (at ∙ ap (λ (o : DomainName). key o.labels types.SOA) origin)) i))
      (λ none. same_if old new is_old is_new low_old low_new (start_key old)
      (λ r at. sym (is.deleted r) ∙ none_among d.deleted.items r (ap (λ (q : Key). 6 == q.1) at) (neither (has_start d.deleted.items) (has_start d.added.items) none).0)
      (λ r at. sym (is.added r) ∙ none_among d.added.items r (ap (λ (q : Key). 6 == q.1) at) (neither (has_start d.deleted.items) (has_start d.added.items) none).1))

  -- the serial number is due to rise by the versions as it is by the difference
  pub due_by : is_due old new ≡ is_due_by d
  due_by = λ i. changed_by i && not (start_changed_by i)

-- ---- no change

all_alike : (xs ys : List Row) → AllByRecursion (λ y. has_row xs y ≡ true) ys → list_all (has_row xs) ys ≡ true
all_alike xs [] all = refl
all_alike xs (y ∷ ys) all = λ i. all.0 i && all_alike xs ys all.1 i

itself : (rows : Rows) (k : Key) → has_changed_at rows rows k ≡ false
itself rows k =
    let same = all_alike (rows_by_key rows k) (rows_by_key rows k) (all_there (rows_by_key rows k)) in
    λ i. not (same i && same i)

-- rows that have not changed at a key
pub same_rows : (old new : Rows) (k : Key) → rows_map.get old k ≡ rows_map.get new k → has_changed_at old new k ≡ false
same_rows old new k e =
    ap (λ (o : Option (List Row)). not (are_alike (rows_by_key old k) (unwrap_or o []))) (sym e) ∙ itself old k

-- a version that has not changed
pub not_due : (zone : ZoneContent) → is_due zone zone ≡ false
not_due zone =
    ap (λ (b : Bool). b && not (has_changed_at zone.rows zone.rows (start_key zone)))
    (none_any (has_changed_at zone.rows zone.rows) (itself zone.rows) (rows_map.keys zone.rows ++ rows_map.keys zone.rows))
