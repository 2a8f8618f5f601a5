-- Updates change no sets but those that they name, and perhaps the SOA record.
use Rattle.std.proofs.Common.{◌≡◌, ◌∙◌, ℕ, Bool, true, false, cond, not, ◌&&◌, ◌||◌, List, [], ◌∷◌, refl, sym, ap, subst, Option, Some, None, Equal, if◌then◌else◌, unwrap_or}
use Rattle.std.specs.FinMap as rows_map
use Rattle.std.specs.List.{AllByRecursion, filter, fold}
use Rattle.std.specs.Ordering.{eq_by_cmp, is_eq}
use Rattle.dns_wire.specs.codes.RecordType.{type_number}
use Rattle.dns_wire.specs.declared.codes.record_type.RecordType.TheVariants as types
use Rattle.dns_wire.specs.declared.codes.dns_class.DNSClass.{DNSClass}
use Rattle.dns_wire.specs.declared.codes.dns_class.DNSClass.TheVariants as classes
use Rattle.dns_names.specs.Compare.{same_labels}
use Rattle.dns_names.specs.Name.{DomainName}
use Rattle.dns_data.specs.rdata.{data_type, same_data}
use Rattle.dns_records.specs.Record.{Record}
use Rattle.dns_records.specs.declared.row.Row.{Row}
use Rattle.dns_records.specs.Rows.{Key, Rows, key_cmp, key_of, row_of, set_of, type_of_record, with_set}
use Rattle.dns_updates.specs.Change.{change, change_of_class, is_ignored, is_kept_set, keeps_rows, set_with, with_row, without_data, without_name, without_set}
use Rattle.dns_updates.specs.Records.{is_of_type}
use Rattle.dns_updates.proofs.UpdateLaws.Maps.{key_total, filled, filled_empty, filled_more, get_with_set, get_other, same_key}
use Rattle.dns_durable.specs.Draft.{DifferWhereSettled, IsSettledFor, Settled, is_any_class, place_of}
use Rattle.dns_durable.proofs.BetweenLaws.{true_false}

-- ---- keys at settled places

-- a key whose place is not settled is not one whose place is
other_key : (settled : Settled) (k q : Key) → settled (place_of k) ≡ false → settled (place_of q) ≡ true → eq_by_cmp key_cmp k q ≡ false
other_key settled k q un is = by (eq_by_cmp key_cmp k q) refl
  where
    by : (b : Bool) → eq_by_cmp key_cmp k q ≡ b → b ≡ false
    by true e = true_false (settled (place_of q)) is (ap (λ (x : Key). settled (place_of x)) (sym (same_key k q e)) ∙ un)
    by false e = refl

-- ---- one record of an update

module _ (settled : Settled) (before : Rows) where
  pub put_elsewhere : (rows : Rows) (q : Key) (s : List Row) → settled (place_of q) ≡ true → DifferWhereSettled settled before rows → DifferWhereSettled settled before (with_set rows q s)
  put_elsewhere rows q s is stays k un = get_other rows q s k (other_key settled k q un is) ∙ stays k un

  either : (b : Bool) (one other : Rows) → DifferWhereSettled settled before one → DifferWhereSettled settled before other → DifferWhereSettled settled before (if b then one else other)
  either true one other f g = f
  either false one other f g = g

  removed_elsewhere : (rows : Rows) (q : Key) → settled (place_of q) ≡ true → DifferWhereSettled settled before rows → DifferWhereSettled settled before (rows_map.remove rows q)
  removed_elsewhere rows q is stays k un =
      rows_map.get-remove key_total rows q k ∙ ap (λ (b : Bool). cond b None (rows_map.get rows k)) (other_key settled k q un is) ∙ stays k un

  -- keys that are alike are kept alike
  kept_alike : (origin owner : DomainName) (q x : Key) → key_cmp q x ≡ Equal
      → (not (same_labels owner.labels x.0) || is_kept_set origin owner x.1) ≡ (not (same_labels owner.labels q.0) || is_kept_set origin owner q.1)
  kept_alike origin owner q x e =
      ap (λ (k : Key). not (same_labels owner.labels k.0) || is_kept_set origin owner k.1) (sym (same_key q x (ap is_eq e)))

  name_elsewhere : (origin : DomainName) (rows : Rows) (owner : DomainName)
      → ((k : Key) → same_labels owner.labels k.0 ≡ true → settled (place_of k) ≡ false → rows_map.get before k ≡ None)
      → DifferWhereSettled settled before rows → DifferWhereSettled settled before (without_name origin rows owner)
  name_elsewhere origin rows owner none stays k un =
      rows_map.get-retain_keys rows (λ (x : Key). not (same_labels owner.labels x.0) || is_kept_set origin owner x.1) k (λ x e. kept_alike origin owner k x e)
      ∙ by (same_labels owner.labels k.0) refl ∙ stays k un
    where
      gone : (b : Bool) → rows_map.get rows k ≡ None → cond b (rows_map.get rows k) None ≡ rows_map.get rows k
      gone true e = refl
      gone false e = sym e

      by : (b : Bool) → same_labels owner.labels k.0 ≡ b
          → cond (not (same_labels owner.labels k.0) || is_kept_set origin owner k.1) (rows_map.get rows k) None ≡ rows_map.get rows k
      by true e = gone _ (stays k un ∙ none k e un)
      by false e = ap (λ (b : Bool). cond (not b || is_kept_set origin owner k.1) (rows_map.get rows k) None) e

  any_elsewhere : (b : Bool) (origin : DomainName) (rows : Rows) (r : Record) → is_of_type types.ANY r ≡ b → settled (place_of (key_of r)) ≡ true
      → (is_of_type types.ANY r ≡ true → (k : Key) → same_labels r.name.labels k.0 ≡ true → settled (place_of k) ≡ false → rows_map.get before k ≡ None)
      → DifferWhereSettled settled before rows
      → DifferWhereSettled settled before (if b then without_name origin rows r.name else without_set origin rows r.name (type_of_record r))
  any_elsewhere true origin rows r e own of_owner stays = name_elsewhere origin rows r.name (of_owner e) stays
  any_elsewhere false origin rows r e own of_owner stays =
      either (is_kept_set origin r.name (type_number (type_of_record r))) rows (rows_map.remove rows (key_of r)) stays (removed_elsewhere rows (key_of r) own stays)

  by_class : (class : DNSClass) (origin : DomainName) (rows : Rows) (r : Record) → r.dns_class ≡ class → IsSettledFor settled before r
      → DifferWhereSettled settled before rows → DifferWhereSettled settled before (change_of_class origin rows class r)
  by_class classes.IN origin rows r e is stays =
      either (is_ignored rows r) rows (with_set rows (key_of r) (set_with rows r)) stays (put_elsewhere rows (key_of r) (set_with rows r) is.own stays)
  by_class classes.ANY origin rows r e is stays =
      any_elsewhere (is_of_type types.ANY r) origin rows r refl is.own (λ any. is.of_owner (λ i. is_any_class (e i) && any i)) stays
  by_class classes.NONE origin rows r e is stays =
      either (keeps_rows origin rows r) rows (with_set rows (key_of r) (without_data (set_of rows r) r.rdata)) stays
      (put_elsewhere rows (key_of r) (without_data (set_of rows r) r.rdata) is.own stays)
  by_class classes.CH origin rows r e is stays = stays
  by_class classes.HS origin rows r e is stays = stays
  by_class (classes.OPT n) origin rows r e is stays = stays
  by_class (classes.Unknown n) origin rows r e is stays = stays

  -- all records of an update
  pub changed_where_settled : (origin : DomainName) (rows : Rows) (records : List Record) → AllByRecursion (IsSettledFor settled before) records
      → DifferWhereSettled settled before rows → DifferWhereSettled settled before (fold (change origin) rows records)
  changed_where_settled origin rows [] all stays = stays
  changed_where_settled origin rows (r ∷ rs) all stays =
      changed_where_settled origin (change origin rows r) rs all.1 (by_class r.dns_class origin rows r refl all.0 stays)

-- ---- the types of rows

-- each row has the type of its key
abbrev pub AreOfType : Rows → Type 0
AreOfType rows = (k : Key) (found : List Row) → rows_map.get rows k ≡ Some found → AllByRecursion (λ row. type_number (data_type row.rdata) ≡ k.1) found

filled_is : (s found : List Row) → filled s ≡ Some found → s ≡ found
filled_is [] found e =
    let never : ◌≡◌ {A = Option (List Row)} None (Some found) = sym filled_empty ∙ e in
    absurd (cc)
filled_is (x ∷ xs) found e =
    let same : ◌≡◌ {A = Option (List Row)} (Some (x ∷ xs)) (Some found) = sym (filled_more x xs) ∙ e in
    cc

found_if : (b : Bool) (o : Option (List Row)) (found : List Row) → cond b o None ≡ Some found → o ≡ Some found
found_if true o found e = e
found_if false o found e = absurd (cc)

pub typed_found : (o : Option (List Row)) (n : ℕ) → ((found : List Row) → o ≡ Some found → AllByRecursion (λ (row : Row). type_number (data_type row.rdata) ≡ n) found)
    → AllByRecursion (λ (row : Row). type_number (data_type row.rdata) ≡ n) (unwrap_or o [])
typed_found None n typed = tt
typed_found (Some found) n typed = typed found refl

typed_with : (n : ℕ) (rows : List Row) (row : Row) → AllByRecursion (λ (x : Row). type_number (data_type x.rdata) ≡ n) rows → type_number (data_type row.rdata) ≡ n
    → AllByRecursion (λ (x : Row). type_number (data_type x.rdata) ≡ n) (with_row rows row)
typed_with n [] row all e = (e, tt)
typed_with n (x ∷ xs) row all e = by (same_data x.rdata row.rdata) (typed_with n xs row all.1 e)
  where
    by : (b : Bool) → AllByRecursion (λ (y : Row). type_number (data_type y.rdata) ≡ n) (with_row xs row)
        → AllByRecursion (λ (y : Row). type_number (data_type y.rdata) ≡ n) (if b then row ∷ xs else x ∷ with_row xs row)
    by true more = (e, all.1)
    by false more = (all.0, more)

typed_filter : (n : ℕ) (p : Row → Bool) (rows : List Row) → AllByRecursion (λ (x : Row). type_number (data_type x.rdata) ≡ n) rows
    → AllByRecursion (λ (x : Row). type_number (data_type x.rdata) ≡ n) (filter p rows)
typed_filter n p [] all = tt
typed_filter n p (x ∷ xs) all = by (p x) (typed_filter n p xs all.1)
  where
    by : (b : Bool) → AllByRecursion (λ (y : Row). type_number (data_type y.rdata) ≡ n) (filter p xs)
        → AllByRecursion (λ (y : Row). type_number (data_type y.rdata) ≡ n) (cond b (x ∷ filter p xs) (filter p xs))
    by true more = (all.0, more)
    by false more = more

typed_put : (rows : Rows) (q : Key) (s : List Row) → AllByRecursion (λ (row : Row). type_number (data_type row.rdata) ≡ q.1) s → AreOfType rows → AreOfType (with_set rows q s)
typed_put rows q s all typed k found e = by (eq_by_cmp key_cmp k q) refl (sym (get_with_set rows q s k) ∙ e)
  where
    by : (b : Bool) → eq_by_cmp key_cmp k q ≡ b → cond b (filled s) (rows_map.get rows k) ≡ Some found → AllByRecursion (λ (row : Row). type_number (data_type row.rdata) ≡ k.1) found
    by true h f =
        subst (λ (x : Key). AllByRecursion (λ (row : Row). type_number (data_type row.rdata) ≡ x.1) found) (sym (same_key k q h))
        (subst (λ (l : List Row). AllByRecursion (λ (row : Row). type_number (data_type row.rdata) ≡ q.1) l) (filled_is s found f) all)
    by false h f = typed k found f

typed_removed : (rows : Rows) (q : Key) → AreOfType rows → AreOfType (rows_map.remove rows q)
typed_removed rows q typed k found e = by (eq_by_cmp key_cmp k q) (sym (rows_map.get-remove key_total rows q k) ∙ e)
  where
    by : (b : Bool) → cond b None (rows_map.get rows k) ≡ Some found → AllByRecursion (λ (row : Row). type_number (data_type row.rdata) ≡ k.1) found
    by true f = absurd (cc)
    by false f = typed k found f

typed_name : (origin : DomainName) (rows : Rows) (owner : DomainName) → AreOfType rows → AreOfType (without_name origin rows owner)
typed_name origin rows owner typed k found e =
    typed k found (found_if (not (same_labels owner.labels k.0) || is_kept_set origin owner k.1) (rows_map.get rows k) found
    (sym (rows_map.get-retain_keys rows (λ (x : Key). not (same_labels owner.labels x.0) || is_kept_set origin owner x.1) k (λ x same. alike x same)) ∙ e))
  where
    alike : (x : Key) → key_cmp k x ≡ Equal
        → (not (same_labels owner.labels x.0) || is_kept_set origin owner x.1) ≡ (not (same_labels owner.labels k.0) || is_kept_set origin owner k.1)
    alike x same = ap (λ (q : Key). not (same_labels owner.labels q.0) || is_kept_set origin owner q.1) (sym (same_key k x (ap is_eq same)))

typed_if : (b : Bool) (one other : Rows) → AreOfType one → AreOfType other → AreOfType (if b then one else other)
typed_if true one other f g = f
typed_if false one other f g = g

typed_set : (rows : Rows) (r : Record) → AreOfType rows → AllByRecursion (λ (row : Row). type_number (data_type row.rdata) ≡ type_number (type_of_record r)) (set_of rows r)
typed_set rows r typed = typed_found (rows_map.get rows (key_of r)) (type_number (type_of_record r)) (typed (key_of r))

typed_added : (b : Bool) (rows : Rows) (r : Record) → AreOfType rows
    → AllByRecursion (λ (row : Row). type_number (data_type row.rdata) ≡ type_number (type_of_record r)) (if b then row_of r ∷ [] else with_row (set_of rows r) (row_of r))
typed_added true rows r typed = (refl, tt)
typed_added false rows r typed = typed_with (type_number (type_of_record r)) (set_of rows r) (row_of r) (typed_set rows r typed) refl

typed_class : (class : DNSClass) (origin : DomainName) (rows : Rows) (r : Record) → AreOfType rows → AreOfType (change_of_class origin rows class r)
typed_class classes.IN origin rows r typed =
    typed_if (is_ignored rows r) rows (with_set rows (key_of r) (set_with rows r)) typed
    (typed_put rows (key_of r) (set_with rows r) (typed_added (is_of_type types.CNAME r || is_of_type types.SOA r) rows r typed) typed)
typed_class classes.ANY origin rows r typed =
    typed_if (is_of_type types.ANY r) (without_name origin rows r.name) (without_set origin rows r.name (type_of_record r)) (typed_name origin rows r.name typed)
    (typed_if (is_kept_set origin r.name (type_number (type_of_record r))) rows (rows_map.remove rows (key_of r)) typed (typed_removed rows (key_of r) typed))
typed_class classes.NONE origin rows r typed =
    typed_if (keeps_rows origin rows r) rows (with_set rows (key_of r) (without_data (set_of rows r) r.rdata)) typed
    (typed_put rows (key_of r) (without_data (set_of rows r) r.rdata)
    (typed_filter (type_number (type_of_record r)) (λ (row : Row). not (same_data row.rdata r.rdata)) (set_of rows r) (typed_set rows r typed)) typed)
typed_class classes.CH origin rows r typed = typed
typed_class classes.HS origin rows r typed = typed
typed_class (classes.OPT n) origin rows r typed = typed
typed_class (classes.Unknown n) origin rows r typed = typed

pub changed_of_type : (origin : DomainName) (rows : Rows) (records : List Record) → AreOfType rows → AreOfType (fold (change origin) rows records)
changed_of_type origin rows [] typed = typed
changed_of_type origin rows (r ∷ rs) typed = changed_of_type origin (change origin rows r) rs (typed_class r.dns_class origin rows r typed)

pub put_of_type : (rows : Rows) (q : Key) (s : List Row) → AllByRecursion (λ (row : Row). type_number (data_type row.rdata) ≡ q.1) s → AreOfType rows → AreOfType (with_set rows q s)
put_of_type rows q s all typed = typed_put rows q s all typed

pub set_of_type : (rows : Rows) (r : Record) → AreOfType rows → AllByRecursion (λ (row : Row). type_number (data_type row.rdata) ≡ type_number (type_of_record r)) (set_of rows r)
set_of_type rows r typed = typed_set rows r typed
