-- Updates keep zones well formed.
use Rattle.std.proofs.Common.{◌≡◌, ◌≢◌, ◌==◌, ◌<◌, ◌≤◌, ◌∙◌, ℕ, Bool, true, false, cond, not, ◌&&◌, ◌||◌, List, [], ◌∷◌, length, refl, sym, ap, subst, arith, Option, Some, None, unwrap_or}
use Rattle.std.specs.Prelude.{IfSome}
use Rattle.std.proofs.lemmas.Bool.Decides.{nat_tests}
use Rattle.std.specs.FinMap as rows_map
use Rattle.std.specs.List.{filter, fold, AllByRecursion, IsDistinct}
use Rattle.std.specs.Ordering.{eq_by_cmp}
use Rattle.dns_wire.specs.codes.RecordType.{type_number}
use Rattle.dns_wire.specs.declared.codes.record_type.RecordType.{RecordType}
use Rattle.dns_wire.specs.declared.codes.record_type.RecordType.TheVariants as types
use Rattle.dns_wire.specs.declared.codes.dns_class.DNSClass.{DNSClass}
use Rattle.dns_wire.specs.declared.codes.dns_class.DNSClass.TheVariants as classes
use Rattle.dns_names.specs.Name.{DomainName}
use Rattle.dns_names.specs.Compare.{lower, same_labels}
use Rattle.dns_names.specs.internal.Compare.{same_labels-equivalence}
use Rattle.dns_data.specs.declared.rdata.RData.{RData}
use Rattle.dns_data.specs.rdata.{data_type, same_data, is_update_data}
use Rattle.dns_data.specs.contracts.rdata.RDataEq.TheImpl.Laws.{laws-law}
use Rattle.dns_records.specs.declared.row.Row.{Row}
use Rattle.dns_records.specs.Record.{Record}
use Rattle.dns_records.specs.RecordSet.{AreDistinct}
use Rattle.dns_records.specs.Rows.{key_of, set_of, type_of_record, with_set}
use Rattle.dns_messages.specs.declared.message.Message.{Message}
use Rattle.dns_messages.specs.declared.response_code.ResponseCode.{ResponseCode}
use Rattle.dns_messages.specs.declared.response_code.ResponseCode.TheVariants.{NoError, FormErr, NotZone}
use Rattle.dns_messages.specs.Section.{is_tsig_type}
use Rattle.dns_messages.specs.Sound.{IsSound, IsSoundIn, is_update_code}
use Rattle.dns_updates.specs.Records.{has_data, has_rows_but, has_set, is_in_zone, is_meta_type, is_of_type, is_origin, is_type}
use Rattle.dns_updates.specs.Code.{fault_if, first_fault, is_malformed, prescan_code, update_code}
use Rattle.dns_updates.specs.Change.{change, change_of_class, is_ignored, is_kept_set, keeps_rows, set_with, succeeds_soa, update_change, with_row, without_data, without_name, without_row, without_set}
use Rattle.dns_updates.proofs.UpdateLaws.Kept.{accepted_pass}
use Rattle.dns_updates.proofs.UpdateLaws.Maps as maps
use Rattle.dns_zone_file.specs.Parsed.{is_singleton_type}
use Rattle.dns_zone.specs.Rows.{Key, Rows, ZoneContent, key, key_cmp, row_of, rows_at, row_data, AreRowsAt, AreSoundRows, IsSoundRow, IsSoundRowData, IsZone}
use Rattle.dns_zone.proofs.RowLaws.{key_total, key_antisymmetric, keys_tie, same_lower, below_lower}

-- ---- tests

or_first : (a b : Bool) → (a || b) ≡ false → a ≡ false
or_first true b e = absurd (cc)
or_first false b e = refl

or_second : (a b : Bool) → (a || b) ≡ false → b ≡ false
or_second true b e = absurd (cc)
or_second false b e = e

and_second : (a b : Bool) → (a && b) ≡ false → a ≡ true → b ≡ false
and_second true b e t = e
and_second false b e t = absurd (cc)

and_first_fails : (a b : Bool) → (a && b) ≡ false → b ≡ true → a ≡ false
and_first_fails true true e t = absurd (cc)
and_first_fails true false e t = absurd (cc)
and_first_fails false b e t = refl

to_true : (b : Bool) → not b ≡ false → b ≡ true
to_true true e = refl
to_true false e = absurd (cc)

or_true : (a : Bool) → (a || true) ≡ true
or_true true = refl
or_true false = refl

-- ---- equal data

same_either : (x y z : RData) → same_data x y ≡ true → same_data x z ≡ false → same_data y z ≡ false
same_either x y z e f = sym (laws-law.congr x y z e) ∙ f

-- ---- one more row

with_row_all : (P : Row → Type 0) (rows : List Row) (row : Row) → AllByRecursion P rows → P row → AllByRecursion P (with_row rows row)
with_row_all P [] row all here = (here, tt)
with_row_all P (old ∷ more) row all here = by (same_data old.rdata row.rdata) (with_row_all P more row all.1 here)
  where
    by : (b : Bool) → AllByRecursion P (with_row more row) → AllByRecursion P (cond b (row ∷ more) (old ∷ with_row more row))
    by true rest = (here, all.1)
    by false rest = (all.0, rest)

all_either : (old row : Row) (more : List Row) → same_data old.rdata row.rdata ≡ true → AllByRecursion (λ (y : Row). same_data old.rdata y.rdata ≡ false) more
    → AllByRecursion (λ (y : Row). same_data row.rdata y.rdata ≡ false) more
all_either old row [] e all = tt
all_either old row (y ∷ ys) e all = (same_either old.rdata row.rdata y.rdata e all.0, all_either old row ys e all.1)

with_row_distinct : (rows : List Row) (row : Row) → AreDistinct row_data rows → AreDistinct row_data (with_row rows row)
unfolding IsDistinct
with_row_distinct [] row d = (tt, tt)
with_row_distinct (old ∷ more) row d = by (same_data old.rdata row.rdata) refl (with_row_distinct more row d.1)
  where
    by : (b : Bool) → same_data old.rdata row.rdata ≡ b → AreDistinct row_data (with_row more row) → AreDistinct row_data (cond b (row ∷ more) (old ∷ with_row more row))
    by true e rest = (all_either old row more e d.0, d.1)
    by false e rest = (with_row_all (λ (y : Row). same_data old.rdata y.rdata ≡ false) more row d.0 e, rest)

-- ---- some rows fewer

filter_all : (P : Row → Type 0) (p : Row → Bool) (rows : List Row) → AllByRecursion P rows → AllByRecursion P (filter p rows)
filter_all P p [] all = tt
filter_all P p (x ∷ xs) all = by (p x) (filter_all P p xs all.1)
  where
    by : (b : Bool) → AllByRecursion P (filter p xs) → AllByRecursion P (cond b (x ∷ filter p xs) (filter p xs))
    by true rest = (all.0, rest)
    by false rest = rest

filter_distinct : (p : Row → Bool) (rows : List Row) → AreDistinct row_data rows → AreDistinct row_data (filter p rows)
unfolding IsDistinct
filter_distinct p [] d = tt
filter_distinct p (x ∷ xs) d = by (p x) (filter_distinct p xs d.1)
  where
    by : (b : Bool) → AreDistinct row_data (filter p xs) → AreDistinct row_data (cond b (x ∷ filter p xs) (filter p xs))
    by true rest = (filter_all (λ (y : Row). same_data x.rdata y.rdata ≡ false) p xs d.0, rest)
    by false rest = rest

filter_most : (p : Row → Bool) (rows : List Row) → length (filter p rows) ≤ length rows
filter_most p [] = omega arith
filter_most p (x ∷ xs) = by (p x) (filter_most p xs)
  where
    by : (b : Bool) → length (filter p xs) ≤ length xs → length (cond b (x ∷ filter p xs) (filter p xs)) ≤ length (x ∷ xs)
    by true h = omega (arith, h)
    by false h = omega (arith, h)

-- ---- a set at a key

if_filled : (P : List Row → Type 0) (s : List Row) → (0 < length s → P s) → IfSome (maps.filled s) P
if_filled P [] h = subst (λ (o : Option (List Row)). IfSome o P) (sym maps.filled_empty) tt
if_filled P (x ∷ xs) h = subst (λ (o : Option (List Row)). IfSome o P) (sym (maps.filled_more x xs)) (h (omega arith))

put_kept : (P : Key → List Row → Type 0) (rows : Rows) (k : Key) (s : List Row) → ((q : Key) → IfSome (rows_map.get rows q) (P q)) → (0 < length s → P k s)
    → (q : Key) → IfSome (rows_map.get (with_set rows k s) q) (P q)
put_kept P rows k s all here q = subst (λ (o : Option (List Row)). IfSome o (P q)) (sym (maps.get_with_set rows k s q)) (by (eq_by_cmp key_cmp q k) refl)
  where
    by : (b : Bool) → eq_by_cmp key_cmp q k ≡ b → IfSome (cond b (maps.filled s) (rows_map.get rows q)) (P q)
    by true t = if_filled (P q) s (λ some. subst (λ (x : Key). P x s) (sym (maps.same_key q k t)) (here some))
    by false t = all q

-- what holds of the rows at a key, if there are any, holds of those that a look-up gives
of_found : (P Q : List Row → Type 0) (o : Option (List Row)) → IfSome o P → ((rows : List Row) → P rows → Q rows) → Q [] → Q (unwrap_or o [])
of_found P Q None h f none = none
of_found P Q (Some rows) h f none = f rows h

of_some : (P : List Row → Type 0) (Q : Type 0) (o : Option (List Row)) → IfSome o P → ((rows : List Row) → P rows → Q) → unwrap_or o [] ≢ [] → Q
of_some P Q None h f some = absurd (some refl)
of_some P Q (Some rows) h f some = f rows h

-- ---- the rows of a zone

-- what updates keep of the rows of a zone
record AreZoneRows (origin : DomainName) (rows : Rows) : Type 0 where
  pub soa : length (rows_at rows origin.labels types.SOA) ≡ 1
  pub each : (k : Key) → IfSome (rows_map.get rows k) (AreRowsAt origin k)

abbrev soa_key : DomainName → Key
soa_key origin = key origin.labels types.SOA

-- a set that is put in place, with one row if it is the start of authority
put_rows : (origin : DomainName) (rows : Rows) (k : Key) (s : List Row) → AreZoneRows origin rows → (soa_key origin ≡ k → length s ≡ 1) → (0 < length s → AreRowsAt origin k s)
    → AreZoneRows origin (with_set rows k s)
put_rows origin rows k s zone one here = record {
  soa = by (eq_by_cmp key_cmp (soa_key origin) k) refl;
  each = put_kept (AreRowsAt origin) rows k s zone.each here;
}
  where
    by : (b : Bool) → eq_by_cmp key_cmp (soa_key origin) k ≡ b → length (rows_at (with_set rows k s) origin.labels types.SOA) ≡ 1
    by true t =
        ap (λ (o : Option (List Row)). length (unwrap_or o [])) (maps.get_with_set rows k s (soa_key origin) ∙ ap (λ b. cond b (maps.filled s) (rows_map.get rows (soa_key origin))) t)
        ∙ ap (λ (x : List Row). length x) (maps.unwrap_filled s) ∙ one (maps.same_key (soa_key origin) k t)
    by false t =
        ap (λ (o : Option (List Row)). length (unwrap_or o [])) (maps.get_other rows k s (soa_key origin) t) ∙ zone.soa

-- ---- additions

-- an update that passes the prescan, of a sound message
record IsAccepted (origin : DomainName) (r : Record) : Type 0 where
  pub sound : IsSoundIn true r
  pub passes : prescan_code origin r ≡ NoError

no_fault : (b : Bool) (c d : ResponseCode) → (c ≢ NoError) → first_fault (fault_if b c) d ≡ NoError → (b ≡ false) × (d ≡ NoError)
no_fault true c d h e = absurd (h (first c d e))
  where
    first : (c d : ResponseCode) → first_fault c d ≡ NoError → c ≡ NoError
    first NoError d e = refl
    first other d e = absurd (cc)
no_fault false c d h e = (refl, e)

last_no_fault : (b : Bool) (c : ResponseCode) → (c ≢ NoError) → fault_if b c ≡ NoError → b ≡ false
last_no_fault true c h e = absurd (h e)
last_no_fault false c h e = refl

single_test : (t : RecordType) → is_singleton_type t ≡ true → (is_type types.CNAME t || is_type types.SOA t) ≡ true
single_test types.CNAME e = refl
single_test types.SOA e = refl
single_test other e = absurd (cc)

six_is : (n : ℕ) → n ≡ 6 → (6 == n) ≡ true
six_is n e = grind (arith, nat_tests)

six_not_five : (n : ℕ) → n ≡ 6 → (5 == n) ≡ false
six_not_five n e = grind (arith, nat_tests)

no_tsig : (t : RecordType) (b : Bool) → (is_tsig_type t && not b) ≡ false → b ≡ false → is_tsig_type t ≡ false
no_tsig t b e f = and_first_fails (is_tsig_type t) (not b) e (ap not f)

module _ (origin : DomainName) (r : Record) (accepted : IsAccepted origin r) (in_class : r.dns_class ≡ classes.IN) where
  here_parts : (is_in_zone origin r.name ≡ true) × (is_malformed classes.IN r ≡ false)
  here_parts =
      let parts = no_fault (not (is_in_zone origin r.name)) NotZone (fault_if (is_malformed r.dns_class r) FormErr) (λ e. cc) accepted.passes in
      let well_formed : is_malformed r.dns_class r ≡ false = last_no_fault (is_malformed r.dns_class r) FormErr (λ e. cc) parts.1 in
      (to_true (is_in_zone origin r.name) parts.0, ap (λ c. is_malformed c r) (sym in_class) ∙ well_formed)

  has_its_data : is_update_data r.rdata ≡ false
  has_its_data = not_not (is_update_data r.rdata) (or_second (is_meta_type (type_of_record r)) (not (has_data r)) here_parts.1)
    where
      not_not : (b : Bool) → not (not b) ≡ false → b ≡ false
      not_not true e = absurd (cc)
      not_not false e = refl

  row_sound : IsSoundRow (row_of r)
  row_sound = record {
    ttl_fits = accepted.sound.sound.ttl_fits;
    rdata = record {
      sound = accepted.sound.sound.rdata;
      not_opt = accepted.sound.not_opt;
      not_tsig = no_tsig (data_type r.rdata) (is_update_data r.rdata) accepted.sound.not_signature has_its_data;
      has_data = has_its_data;
    };
  }

module _ (origin : DomainName) (rows : Rows) (r : Record) (zone : AreZoneRows origin rows) (accepted : IsAccepted origin r) (in_class : r.dns_class ≡ classes.IN) where
  -- the set of one row, or with one more
  set_by : (P : List Row → Type 0) → P (row_of r ∷ []) → P (with_row (set_of rows r) (row_of r)) → P (set_with rows r)
  set_by P one more = elim (is_of_type types.CNAME r || is_of_type types.SOA r) as (λ b. P (cond b (row_of r ∷ []) (with_row (set_of rows r) (row_of r)))) [ true ↦ one | false ↦ more ]

  old_all : (Q : Row → Type 0) → ((s : List Row) → AreRowsAt origin (key_of r) s → AllByRecursion Q s) → AllByRecursion Q (set_of rows r)
  old_all Q f = of_found (AreRowsAt origin (key_of r)) (AllByRecursion Q) (rows_map.get rows (key_of r)) (zone.each (key_of r)) f tt

  old_distinct : AreDistinct row_data (set_of rows r)
  unfolding IsDistinct
  old_distinct = of_found (AreRowsAt origin (key_of r)) (AreDistinct row_data) (rows_map.get rows (key_of r)) (zone.each (key_of r)) (λ s h. h.distinct) tt

  set_distinct : AreDistinct row_data (set_with rows r)
  unfolding IsDistinct
  set_distinct = set_by (AreDistinct row_data) (tt, tt) (with_row_distinct (set_of rows r) (row_of r) old_distinct)

  alone_in_set : (is_of_type types.CNAME r || is_of_type types.SOA r) ≡ true → length (set_with rows r) ≡ 1
  alone_in_set e = ap (λ b. length (cond b (row_of r ∷ []) (with_row (set_of rows r) (row_of r)))) e

  some_there : (s : List Row) → succeeds_soa s r ≡ true → s ≢ []
  some_there [] e f = cc
  some_there (x ∷ xs) e f = cc

  soa_stands : is_ignored rows r ≡ false → (key_of r).1 ≡ 6 → same_labels origin.labels (key_of r).0 ≡ true
  soa_stands ignored six =
      let no_alias : is_of_type types.CNAME r ≡ false = six_not_five (type_number (type_of_record r)) six in
      let is_start : is_of_type types.SOA r ≡ true = six_is (type_number (type_of_record r)) six in
      let either : (has_set rows r.name types.CNAME || (is_of_type types.SOA r && not (succeeds_soa (set_of rows r) r))) ≡ false =
      sym (ap (λ b. cond b (has_rows_but rows r.name types.CNAME) (has_set rows r.name types.CNAME || (is_of_type types.SOA r && not (succeeds_soa (set_of rows r) r)))) no_alias) ∙ ignored in
      let succeeds : succeeds_soa (set_of rows r) r ≡ true = to_true _ (and_second (is_of_type types.SOA r) _ (or_second _ _ either) is_start) in
      of_some (AreRowsAt origin (key_of r)) (same_labels origin.labels (key_of r).0 ≡ true) (rows_map.get rows (key_of r)) (zone.each (key_of r)) (λ s h. h.soa_at_origin six)
      (some_there (set_of rows r) succeeds)

  added_here : is_ignored rows r ≡ false → 0 < length (set_with rows r) → AreRowsAt origin (key_of r) (set_with rows r)
  added_here ignored some = record {
    inside = below_lower origin.labels r.name.labels ∙ (here_parts origin r accepted in_class).0;
    filled = some;
    sound = set_by AreSoundRows ((row_sound origin r accepted in_class), tt) (with_row_all IsSoundRow (set_of rows r) (row_of r) (old_all IsSoundRow (λ s h. h.sound)) (row_sound origin r accepted in_class));
    of_type = set_by (AllByRecursion (λ (row : Row). type_number (data_type row.rdata) ≡ (key_of r).1)) (refl, tt)
        (with_row_all (λ (row : Row). type_number (data_type row.rdata) ≡ (key_of r).1) (set_of rows r) (row_of r) (old_all (λ (row : Row). type_number (data_type row.rdata) ≡ (key_of r).1) (λ s h. h.of_type)) refl);
    distinct = set_distinct;
    single = λ e. alone_in_set (single_test (type_of_record r) (ap is_singleton_type (sym accepted.sound.sound.rdata.type_named) ∙ e));
    soa_at_origin = soa_stands ignored;
  }

  one_start : soa_key origin ≡ key_of r → length (set_with rows r) ≡ 1
  one_start e =
      alone_in_set (ap (λ b. is_of_type types.CNAME r || b) (six_is (type_number (type_of_record r)) (ap (λ (k : Key). k.1) (sym e))) ∙ or_true (is_of_type types.CNAME r))

  added_kept : (b : Bool) → is_ignored rows r ≡ b → AreZoneRows origin (cond b rows (with_set rows (key_of r) (set_with rows r)))
  added_kept true e = zone
  added_kept false e = put_rows origin rows (key_of r) (set_with rows r) zone one_start (added_here e)

-- ---- deletions

true_false : true ≡ false → ⊥
true_false e = cc

both_true : (a b : Bool) → (a && b) ≡ true → (a ≡ true) × (b ≡ true)
both_true true b e = (refl, e)
both_true false b e = absurd (cc)

turned : (n : ℕ) → (6 == n) ≡ true → (n == 6) ≡ true
turned n e = grind (arith, nat_tests)

same_back : (a b : List (List ℕ)) → same_labels a b ≡ true → same_labels b a ≡ true
same_back a b e = sym (same_labels-equivalence.symm a b) ∙ e

-- the same rows at some keys, and none at others
part_kept : (origin : DomainName) (old new : Rows) → AreZoneRows origin old → rows_map.get new (soa_key origin) ≡ rows_map.get old (soa_key origin)
    → ((q : Key) → (b : Bool) × (rows_map.get new q ≡ cond b (rows_map.get old q) None)) → AreZoneRows origin new
part_kept origin old new zone soa parts = record {
  soa = ap (λ (o : Option (List Row)). length (unwrap_or o [])) soa ∙ zone.soa;
  each = λ q. subst (λ (o : Option (List Row)). IfSome o (AreRowsAt origin q)) (sym (parts q).1) (by q (parts q).0);
}
  where
    by : (q : Key) (b : Bool) → IfSome (cond b (rows_map.get old q) None) (AreRowsAt origin q)
    by q true = zone.each q
    by q false = tt

either_way : (b : Bool) (o : Option (List Row)) → cond b None o ≡ cond (not b) o None
either_way true o = refl
either_way false o = refl

module _ (origin : DomainName) (rows : Rows) (zone : AreZoneRows origin rows) where
  -- the rows at the origin's SOA are among those that deletions of a name keep
  kept_test : (owner : DomainName) → (not (same_labels owner.labels (soa_key origin).0) || is_kept_set origin owner 6) ≡ true
  kept_test owner = by (same_labels owner.labels (lower origin.labels)) refl
    where
      by : (b : Bool) → same_labels owner.labels (lower origin.labels) ≡ b → (not b || (is_origin origin owner && true)) ≡ true
      by true e = ap (λ b. b && true) (same_back owner.labels origin.labels (sym (same_lower owner.labels origin.labels) ∙ e))
      by false e = refl

  name_kept : (owner : DomainName) → AreZoneRows origin (without_name origin rows owner)
  name_kept owner =
      part_kept origin rows (without_name origin rows owner) zone
      (found (soa_key origin) ∙ ap (λ b. cond b (rows_map.get rows (soa_key origin)) None) (kept_test owner))
      (λ q. (is_left q, found q))
    where
      is_left : Key → Bool
      is_left k = not (same_labels owner.labels k.0) || is_kept_set origin owner k.1

      found : (q : Key) → rows_map.get (without_name origin rows owner) q ≡ cond (is_left q) (rows_map.get rows q) None
      found q = rows_map.get-retain_keys rows is_left q (λ x t. ap is_left (sym (key_antisymmetric q x t)))

  set_kept : (owner : DomainName) (t : RecordType) → AreZoneRows origin (without_set origin rows owner t)
  set_kept owner t = by (is_kept_set origin owner (type_number t)) refl
    where
      found : (q : Key) → rows_map.get (rows_map.remove rows (key owner.labels t)) q ≡ cond (eq_by_cmp key_cmp q (key owner.labels t)) None (rows_map.get rows q)
      found q = rows_map.get-remove key_total rows (key owner.labels t) q

      apart : (b : Bool) → eq_by_cmp key_cmp (soa_key origin) (key owner.labels t) ≡ b → is_kept_set origin owner (type_number t) ≡ false → b ≡ false
      apart true e not_kept =
          let both = both_true _ _ (keys_tie origin.labels owner.labels types.SOA t ∙ e) in
          sym (λ i. both.0 i && ((turned (type_number t) both.1 i) || (type_number t == 2))) ∙ not_kept
      apart false e not_kept = refl

      by : (b : Bool) → is_kept_set origin owner (type_number t) ≡ b → AreZoneRows origin (cond b rows (rows_map.remove rows (key owner.labels t)))
      by true e = zone
      by false e =
          part_kept origin rows (rows_map.remove rows (key owner.labels t)) zone
          (found (soa_key origin) ∙ ap (λ b. cond b None (rows_map.get rows (soa_key origin))) (apart (eq_by_cmp key_cmp (soa_key origin) (key owner.labels t)) refl e))
          (λ q. (not (eq_by_cmp key_cmp q (key owner.labels t)), found q ∙ either_way (eq_by_cmp key_cmp q (key owner.labels t)) (rows_map.get rows q)))

  row_left : (k : Key) (o : Option (List Row)) (p : Row → Bool) → IfSome o (AreRowsAt origin k) → 0 < length (filter p (unwrap_or o [])) → AreRowsAt origin k (filter p (unwrap_or o []))
  row_left k None p h some = absurd (omega (arith, some))
  row_left k (Some s) p h some = record {
    inside = h.inside;
    filled = some;
    sound = filter_all IsSoundRow p s h.sound;
    of_type = filter_all (λ (row : Row). type_number (data_type row.rdata) ≡ k.1) p s h.of_type;
    distinct = filter_distinct p s h.distinct;
    single = λ e. omega (arith, filter_most p s, h.single e, some);
    soa_at_origin = h.soa_at_origin;
  }

  row_kept : (r : Record) → AreZoneRows origin (without_row origin rows r)
  row_kept r = by (keeps_rows origin rows r) refl
    where
      by : (b : Bool) → keeps_rows origin rows r ≡ b → AreZoneRows origin (cond b rows (with_set rows (key_of r) (without_data (set_of rows r) r.rdata)))
      by true e = zone
      by false e =
          put_rows origin rows (key_of r) (without_data (set_of rows r) r.rdata) zone
          (λ same. absurd (true_false (sym (six_is (type_number (type_of_record r)) (ap (λ (k : Key). k.1) (sym same))) ∙ or_first (is_of_type types.SOA r) _ e)))
          (row_left (key_of r) (rows_map.get rows (key_of r)) (λ row. not (same_data row.rdata r.rdata)) (zone.each (key_of r)))

  -- ---- updates

  change_kept : (r : Record) → IsAccepted origin r → AreZoneRows origin (change origin rows r)
  change_kept r accepted = by r.dns_class refl
    where
      by : (c : DNSClass) → r.dns_class ≡ c → AreZoneRows origin (change_of_class origin rows c r)
      by classes.IN e = added_kept origin rows r zone accepted e (is_ignored rows r) refl
      by classes.ANY e = elim (is_of_type types.ANY r) as (λ b. AreZoneRows origin (cond b (without_name origin rows r.name) (without_set origin rows r.name (type_of_record r)))) [ true ↦ name_kept r.name | false ↦ set_kept r.name (type_of_record r) ]
      by classes.NONE e = row_kept r
      by other e = zone

all_kept : (origin : DomainName) (rs : List Record) (rows : Rows) → AreZoneRows origin rows → AllByRecursion (IsAccepted origin) rs → AreZoneRows origin (fold (change origin) rows rs)
all_kept origin [] rows zone all = zone
all_kept origin (r ∷ rs) rows zone all = all_kept origin rs (change origin rows r) (change_kept origin rows zone r all.0) all.1

accepted_all : (origin : DomainName) (rs : List Record) → AllByRecursion (IsSoundIn true) rs → AllByRecursion (λ r. prescan_code origin r ≡ NoError) rs → AllByRecursion (IsAccepted origin) rs
accepted_all origin [] sound passes = tt
accepted_all origin (r ∷ rs) sound passes = (record { sound = sound.0; passes = passes.0 }, accepted_all origin rs sound.1 passes.1)

any_op : (is_update : Bool) (r : Record) → IsSoundIn is_update r → IsSoundIn true r
any_op is_update r h = record { sound = h.sound; not_opt = h.not_opt; not_signature = h.not_signature; has_data = refl }

any_ops : (is_update : Bool) (rs : List Record) → AllByRecursion (IsSoundIn is_update) rs → AllByRecursion (IsSoundIn true) rs
any_ops is_update [] all = tt
any_ops is_update (r ∷ rs) all = (any_op is_update r all.0, any_ops is_update rs all.1)

pub zone_kept : (zone : ZoneContent) (m : Message) → IsZone zone → IsSound m → update_code zone.origin zone.rows m ≡ NoError → IsZone (record zone { rows = update_change zone.origin zone.rows m })
zone_kept zone m h sound ok =
    let kept = all_kept zone.origin m.authorities zone.rows (record { soa = h.soa; each = h.rows })
    (accepted_all zone.origin m.authorities (any_ops (is_update_code m.metadata.op_code) m.authorities sound.authorities) (accepted_pass zone.origin zone.rows m ok)) in
    record { origin_fqdn = h.origin_fqdn; soa = kept.soa; rows = kept.each }

additions_sound : (origin : DomainName) (rs : List Record) → AllByRecursion (IsAccepted origin) rs → AllByRecursion (λ r. r.dns_class ≡ classes.IN → IsSoundRowData r.rdata) rs
additions_sound origin [] all = tt
additions_sound origin (r ∷ rs) all = (λ e. (row_sound origin r all.0 e).rdata, additions_sound origin rs all.1)

pub accepted_sound : (zone : ZoneContent) (m : Message) → IsSound m → update_code zone.origin zone.rows m ≡ NoError → AllByRecursion (λ r. r.dns_class ≡ classes.IN → IsSoundRowData r.rdata) m.authorities
accepted_sound zone m sound ok =
    additions_sound zone.origin m.authorities
    (accepted_all zone.origin m.authorities (any_ops (is_update_code m.metadata.op_code) m.authorities sound.authorities) (accepted_pass zone.origin zone.rows m ok))
