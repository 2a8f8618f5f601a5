-- The updates of builders: the code with which each is answered, and what it changes.
use Rattle.std.proofs.Common.{◌≡◌, ◌≢◌, ◌==◌, ℕ, Bool, true, false, cond, not, ◌&&◌, List, [], ◌∷◌, map, refl, sym, ap, ◌∙◌, subst, is_some, Option, Some, None, unwrap_or}
use Rattle.std.specs.List.{fold, list_all, AllByRecursion}
use Rattle.std.specs.FinMap as rows_map
use Rattle.dns_wire.specs.codes.RecordType.{type_number}
use Rattle.dns_wire.specs.declared.codes.record_type.RecordType.TheVariants as types
use Rattle.dns_wire.specs.declared.codes.dns_class.DNSClass.{DNSClass}
use Rattle.dns_wire.specs.declared.codes.dns_class.DNSClass.TheVariants as classes
use Rattle.dns_names.specs.Name.{DomainName}
use Rattle.dns_names.specs.Compare.{lower, same_labels}
use Rattle.dns_records.specs.declared.row.Row.{Row}
use Rattle.dns_records.specs.Record.{Record}
use Rattle.dns_records.specs.Rows.{Key, Rows, HasNoEmptySet, rows_of, set_key, type_of_record, with_set}
use Rattle.dns_messages.specs.declared.response_code.ResponseCode.{ResponseCode}
use Rattle.dns_messages.specs.declared.response_code.ResponseCode.TheVariants.{NoError, FormErr, NXDomain, YXDomain, YXRRSet, NXRRSet, NotZone}
use Rattle.dns_updates.specs.Records.{is_type, is_in_class, is_in_zone, is_transfer_type, has_rows, same_data_set}
use Rattle.dns_updates.specs.Code.{prerequisite_code, test_code, prescan_code, sets_code, has_required, is_required_with, fault_if, first_fault, first_fault_of, update_code}
use Rattle.dns_updates.specs.Change.{without_name, without_set, change, update_change}
use Rattle.dns_records.specs.RecordSet.{RecordSetValue, each_with_ttl}
use Rattle.dns_updates.specs.Builders.{IsRecordOf, IsSetFor, AreRowsFor, present, is_present, is_current, created, appended, swapped, IsWithoutRows, IsWithoutSet, IsWithoutName, as_deletions, empty_record, create_message, append_message, compare_and_swap_message, delete_by_rdata_message, delete_rrset_message, delete_all_message}
use Rattle.dns_updates.proofs.UpdateLaws.Maps.{set_at, with_set_full, set_at_with_set, with_set_twice, fold_at}
use Rattle.dns_updates.proofs.UpdateLaws.Lists.{add, delete, remaining, all_map, filter_all, fold_add, fold_rows, fold_delete, fold_append, none_remain_equal, data_of_untimed}
use Rattle.dns_updates.proofs.UpdateLaws.Deletions.{without_rows, is_without_set, is_without_name}
use Rattle.dns_updates.proofs.UpdateLaws.Codes.{no_fault, no_fault_append, last_fault, code_of_parts, all_constant, number_itself}
use Rattle.dns_updates.proofs.UpdateLaws.Sets.{plain_type, NoAlias, keeps_no_alias, Alike, InZoneAlike, zone_passes, record_key, owner_in_zone, addition, addition_passes, deletion, deletion_passes}

all_deletions : (s : RecordSetValue) (Q : Record → Type 0) → ((r : Record) → IsRecordOf s r → Q (record r { dns_class = classes.NONE; ttl = 0 })) → (rs : List Record) → AllByRecursion (IsRecordOf s) rs → AllByRecursion Q (as_deletions rs)
all_deletions s Q f [] all = tt
all_deletions s Q f (r ∷ rs) all = (f r all.0, all_deletions s Q f rs all.1)

all_untimed : (s : RecordSetValue) (Q : Record → Type 0) → ((r : Record) → IsRecordOf s r → Q (record r { ttl = 0 })) → (rs : List Record) → AllByRecursion (IsRecordOf s) rs → AllByRecursion Q (each_with_ttl 0 rs)
all_untimed s Q f [] all = tt
all_untimed s Q f (r ∷ rs) all = (f r all.0, all_untimed s Q f rs all.1)

none_there : (o : Option (List Row)) → is_some o ≡ false → unwrap_or o [] ≡ []
none_there None e = refl
none_there (Some s) e = absurd (cc)

no_fault_no : (b : Bool) (c : ResponseCode) → (c ≢ NoError) → fault_if b c ≡ NoError → b ≡ false
no_fault_no true c h e = absurd (h e)
no_fault_no false c h e = refl

no_fault_yes : (b : Bool) (c : ResponseCode) → (c ≢ NoError) → fault_if (not b) c ≡ NoError → b ≡ true
no_fault_yes true c h e = refl
no_fault_yes false c h e = absurd (h e)

module _ (alike : Alike) (inside : InZoneAlike) (origin : DomainName) where
  additions_pass : (s : RecordSetValue) → IsSetFor origin s → first_fault_of (prescan_code origin) s.records ≡ NoError
  additions_pass s h = no_fault (prescan_code origin) s.records
      (all_map (λ r i. addition_passes alike s r i inside origin h.in_zone h.in_class (plain_type s.record_type h.plain)) s.records h.records)

  additions : (s : RecordSetValue) → IsSetFor origin s → (rows : Rows) → NoAlias s rows → rows_map.get rows (set_key s) ≢ Some []
      → fold (change origin) rows s.records ≡ with_set rows (set_key s) (fold add (set_at rows (set_key s)) s.records)
  additions s h rows none full =
      let plain = plain_type s.record_type h.plain in
      fold_at (set_key s) (change origin) add (NoAlias s) (keeps_no_alias s plain.cname) s.records
      (all_map (λ r i rows none. addition alike s r i origin h.in_class plain rows none) s.records h.records) rows none full

  deletions_pass : (s : RecordSetValue) → IsSetFor origin s → AllByRecursion (λ r. prescan_code origin r ≡ NoError) (as_deletions s.records)
  deletions_pass s h = all_deletions s (λ r. prescan_code origin r ≡ NoError) (λ r i. deletion_passes alike s r i inside origin h.in_zone (plain_type s.record_type h.plain)) s.records h.records

  deletions : (s : RecordSetValue) → IsSetFor origin s → (rows : Rows) → rows_map.get rows (set_key s) ≢ Some []
      → fold (change origin) rows (as_deletions s.records) ≡ with_set rows (set_key s) (remaining s.records (set_at rows (set_key s)))
  deletions s h rows full =
      fold_at (set_key s) (change origin) delete (λ _. Unit {0}) (λ _ _ _. tt) (as_deletions s.records)
      (all_deletions s (λ r. (rows : Rows) → Unit {0} → change origin rows r ≡ with_set rows (set_key s) (delete (set_at rows (set_key s)) r)) (λ r i rows _. deletion alike s r i origin (plain_type s.record_type h.plain) rows) s.records h.records) rows tt full
      ∙ ap (with_set rows (set_key s)) (fold_delete s.records (set_at rows (set_key s)))

  -- ---- create

  absent : (rows : Rows) (s : RecordSetValue) → IsSetFor origin s → prerequisite_code origin rows (empty_record classes.NONE s.name s.record_type) ≡ fault_if (is_present rows s) YXRRSet
  absent rows s h =
      let plain = plain_type s.record_type h.plain in
      λ i. first_fault (fault_if (not (h.in_zone i)) NotZone) (cond (plain.any i) (fault_if (has_rows rows s.name) YXDomain) (fault_if (is_present rows s) YXRRSet))

  pub create_code : (id : ℕ) (rows : Rows) (s : RecordSetValue) (e : Bool) → IsSetFor origin s
      → update_code origin rows (create_message id s origin e) ≡ fault_if (is_present rows s) YXRRSet
  create_code id rows s e h =
      let p : ResponseCode = prerequisite_code origin rows (empty_record classes.NONE s.name s.record_type) in
      code_of_parts _ (first_fault p NoError) NoError _ (zone_passes alike origin s.dns_class h.in_class) (additions_pass s h)
      ∙ last_fault (first_fault p NoError) ∙ last_fault p ∙ absent rows s h

  pub create_change : (id : ℕ) (rows : Rows) (s : RecordSetValue) (e : Bool) → IsSetFor origin s → AreRowsFor s rows
      → update_code origin rows (create_message id s origin e) ≡ NoError
      → update_change origin rows (create_message id s origin e) ≡ created rows s
  create_change id rows s e h are ok =
      let absent : is_present rows s ≡ false = no_fault_no (is_present rows s) YXRRSet (λ x. cc) (sym (create_code id rows s e h) ∙ ok) in
      additions s h rows are.no_alias (are.filled (set_key s))
      ∙ ap (with_set rows (set_key s)) (ap (λ b. fold add b s.records) (none_there (rows_map.get rows (set_key s)) absent) ∙ fold_add s.records [] tt h.distinct)
      ∙ ap (λ b. cond b rows (with_set rows (set_key s) (rows_of s.records))) (sym absent)

  -- ---- append

  stands : (rows : Rows) (s : RecordSetValue) → IsSetFor origin s → prerequisite_code origin rows (empty_record classes.ANY s.name s.record_type) ≡ fault_if (not (is_present rows s)) NXRRSet
  stands rows s h =
      let plain = plain_type s.record_type h.plain in
      λ i. first_fault (fault_if (not (h.in_zone i)) NotZone) (cond (plain.any i) (fault_if (not (has_rows rows s.name)) NXDomain) (fault_if (not (is_present rows s)) NXRRSet))

  pub append_code : (id : ℕ) (rows : Rows) (s : RecordSetValue) (must e : Bool) → IsSetFor origin s
      → update_code origin rows (append_message id s origin must e) ≡ fault_if (must && not (is_present rows s)) NXRRSet
  append_code id rows s false e h =
      code_of_parts _ NoError NoError _ (zone_passes alike origin s.dns_class h.in_class) (additions_pass s h)
  append_code id rows s true e h =
      let p : ResponseCode = prerequisite_code origin rows (empty_record classes.ANY s.name s.record_type) in
      code_of_parts _ (first_fault p NoError) NoError _ (zone_passes alike origin s.dns_class h.in_class) (additions_pass s h)
      ∙ last_fault (first_fault p NoError) ∙ last_fault p ∙ stands rows s h

  pub append_change : (id : ℕ) (rows : Rows) (s : RecordSetValue) (must e : Bool) → IsSetFor origin s → AreRowsFor s rows
      → update_code origin rows (append_message id s origin must e) ≡ NoError
      → update_change origin rows (append_message id s origin must e) ≡ appended rows s must
  append_change id rows s must e h are ok =
      let there : (must && not (is_present rows s)) ≡ false = no_fault_no (must && not (is_present rows s)) NXRRSet (λ x. cc) (sym (append_code id rows s must e h) ∙ ok) in
      additions s h rows are.no_alias (are.filled (set_key s))
      ∙ ap (with_set rows (set_key s)) (fold_rows s.records (set_at rows (set_key s)))
      ∙ ap (λ b. cond b rows (appended rows s false)) (sym there)

  -- ---- deletions

  pub delete_by_rdata_code : (id : ℕ) (rows : Rows) (s : RecordSetValue) (e : Bool) → IsSetFor origin s
      → update_code origin rows (delete_by_rdata_message id s origin e) ≡ NoError
  delete_by_rdata_code id rows s e h =
      code_of_parts _ NoError NoError _ (zone_passes alike origin s.dns_class h.in_class) (no_fault (prescan_code origin) (as_deletions s.records) (deletions_pass s h))

  pub delete_by_rdata_change : (id : ℕ) (rows : Rows) (s : RecordSetValue) (e : Bool) → IsSetFor origin s → HasNoEmptySet rows
      → IsWithoutRows s rows (update_change origin rows (delete_by_rdata_message id s origin e))
  delete_by_rdata_change id rows s e h filled =
      let P : Rows → Type 0 = λ new. IsWithoutRows s rows new in
      subst P (sym (deletions s h rows (filled (set_key s)))) (without_rows s rows filled)

  pub delete_rrset_code : (id : ℕ) (rows : Rows) (r : Record) (e : Bool) → is_in_zone origin r.name ≡ true → r.dns_class ≡ classes.IN → is_transfer_type (type_of_record r) ≡ false
      → update_code origin rows (delete_rrset_message id r origin e) ≡ NoError
  delete_rrset_code id rows r e zone class transfer =
      code_of_parts _ NoError NoError _ (zone_passes alike origin r.dns_class class)
      (λ i. first_fault (first_fault (fault_if (not (zone i)) NotZone) (fault_if (transfer i) FormErr)) NoError)

  pub delete_rrset_change : (id : ℕ) (rows : Rows) (r : Record) (e : Bool) → is_type types.ANY (type_of_record r) ≡ false
      → IsWithoutSet origin r.name (type_of_record r) rows (update_change origin rows (delete_rrset_message id r origin e))
  delete_rrset_change id rows r e any =
      let P : Rows → Type 0 = λ new. IsWithoutSet origin r.name (type_of_record r) rows new in
      subst P (sym (ap (λ b. cond b (without_name origin rows r.name) (without_set origin rows r.name (type_of_record r))) any))
      (is_without_set alike origin rows r.name (type_of_record r))

  pub delete_all_code : (id : ℕ) (rows : Rows) (owner : DomainName) (c : DNSClass) (e : Bool) → is_in_zone origin owner ≡ true → c ≡ classes.IN
      → update_code origin rows (delete_all_message id owner origin c e) ≡ NoError
  delete_all_code id rows owner c e zone class =
      code_of_parts _ NoError NoError _ (zone_passes alike origin c class)
      (λ i. first_fault (first_fault (fault_if (not (zone i)) NotZone) NoError) NoError)

  pub delete_all_change : (id : ℕ) (rows : Rows) (owner : DomainName) (c : DNSClass) (e : Bool)
      → IsWithoutName origin owner rows (update_change origin rows (delete_all_message id owner origin c e))
  delete_all_change id rows owner c e = is_without_name alike origin rows owner

  -- ---- compare and swap

  required : (rows : Rows) (s : RecordSetValue) → IsSetFor origin s → (p : Record) → IsRecordOf s p
      → has_required rows (each_with_ttl 0 s.records) (record p { ttl = 0 }) ≡ is_current rows s
  required rows s h p i =
      let all : AllByRecursion (λ q. is_required_with p q ≡ true) (each_with_ttl 0 s.records) = all_untimed s (λ q. is_required_with p q ≡ true) one s.records h.records in
      (λ j. same_data_set (map (λ q. q.rdata) (filter_all (is_required_with p) (each_with_ttl 0 s.records) all j)) (map (λ row. row.rdata) (set_at rows (record_key alike s p i j))))
      ∙ ap (λ d. same_data_set d (map (λ row. row.rdata) (present rows s))) (data_of_untimed s.records)
    where
      one : (q : Record) → IsRecordOf s q → is_required_with p (record q { ttl = 0 }) ≡ true
      one q k =
          let same : same_labels p.name.labels q.name.labels ≡ true = (alike p.name.labels q.name.labels).1 ((alike p.name.labels s.name.labels).0 i.owner ∙ sym ((alike q.name.labels s.name.labels).0 k.owner)) in
          λ j. is_in_class ((k.of_class ∙ h.in_class) j) && (same j && (((λ l. type_number (i.of_type l) == type_number (k.of_type l)) ∙ number_itself (type_number s.record_type)) j))

  untimed_passes : (rows : Rows) (s : RecordSetValue) → IsSetFor origin s → AllByRecursion (λ r. prerequisite_code origin rows r ≡ NoError) (each_with_ttl 0 s.records)
  untimed_passes rows s h = all_untimed s (λ r. prerequisite_code origin rows r ≡ NoError) one s.records h.records
    where
      one : (r : Record) → IsRecordOf s r → prerequisite_code origin rows (record r { ttl = 0 }) ≡ NoError
      one r i = λ j. first_fault (fault_if (not ((owner_in_zone alike s r i inside origin ∙ h.in_zone) j)) NotZone) (test_code rows ((i.of_class ∙ h.in_class) j) (record r { ttl = 0 }))

  required_code : (rows : Rows) (s : RecordSetValue) → IsSetFor origin s → s.records ≢ [] → sets_code rows (each_with_ttl 0 s.records) ≡ fault_if (not (is_current rows s)) NXRRSet
  required_code rows s h some =
      ap (λ rs. fault_if (not (list_all (has_required rows (each_with_ttl 0 s.records)) rs)) NXRRSet)
      (filter_all (λ r. is_in_class r.dns_class) (each_with_ttl 0 s.records) (all_untimed s (λ r. is_in_class r.dns_class ≡ true) (λ r i j. is_in_class ((i.of_class ∙ h.in_class) j)) s.records h.records))
      ∙ ap (λ b. fault_if (not b) NXRRSet) (constant s.records some (all_untimed s (λ p. has_required rows (each_with_ttl 0 s.records) p ≡ is_current rows s) (required rows s h) s.records h.records))
    where
      constant : (rs : List Record) → rs ≢ [] → AllByRecursion (λ p. has_required rows (each_with_ttl 0 s.records) p ≡ is_current rows s) (each_with_ttl 0 rs)
          → list_all (has_required rows (each_with_ttl 0 s.records)) (each_with_ttl 0 rs) ≡ is_current rows s
      constant [] some all = absurd (some refl)
      constant (r ∷ rs) some all = all_constant (has_required rows (each_with_ttl 0 s.records)) (is_current rows s) (record r { ttl = 0 }) (each_with_ttl 0 rs) all

  pub swap_code : (id : ℕ) (rows : Rows) (current new : RecordSetValue) (e : Bool) → IsSetFor origin current → IsSetFor origin new → current.records ≢ []
      → update_code origin rows (compare_and_swap_message id current new origin e) ≡ fault_if (not (is_current rows current)) NXRRSet
  swap_code id rows current new e c n some =
      code_of_parts _ _ _ _ (zone_passes alike origin new.dns_class n.in_class)
      (no_fault_append (prescan_code origin) (as_deletions current.records) new.records (deletions_pass current c) ∙ additions_pass new n)
      ∙ ap (λ x. first_fault x (sets_code rows (each_with_ttl 0 current.records))) (no_fault (prerequisite_code origin rows) (each_with_ttl 0 current.records) (untimed_passes rows current c))
      ∙ required_code rows current c some

  pub swap_change : (id : ℕ) (rows : Rows) (current new : RecordSetValue) (e : Bool) → IsSetFor origin current → IsSetFor origin new → current.records ≢ []
      → same_labels current.name.labels new.name.labels ≡ true → current.record_type ≡ new.record_type → AreRowsFor new rows
      → update_code origin rows (compare_and_swap_message id current new origin e) ≡ NoError
      → update_change origin rows (compare_and_swap_message id current new origin e) ≡ swapped rows current new
  swap_change id rows current new e c n some names types are ok =
      let is : is_current rows current ≡ true = no_fault_yes (is_current rows current) NXRRSet (λ x. cc) (sym (swap_code id rows current new e c n some) ∙ ok) in
      let lower_names : lower current.name.labels ≡ lower new.name.labels = (alike current.name.labels new.name.labels).0 names in
      let keys : set_key current ≡ set_key new = λ i. (lower_names i, type_number (types i)) in
      let k : Key = set_key new in
      let rest : Rows = with_set rows k [] in
      let plain = plain_type new.record_type n.plain in
      let none : remaining current.records (set_at rows (set_key current)) ≡ [] = none_remain_equal current.records (set_at rows (set_key current)) _ is in
      fold_append (change origin) rows (as_deletions current.records) new.records
      ∙ ap (λ x. fold (change origin) x new.records) (deletions current c rows (are.filled (set_key current)) ∙ (λ i. with_set rows (keys i) (none i)))
      ∙ additions new n rest (keeps_no_alias new plain.cname rows [] are.no_alias) (with_set_full rows k [])
      ∙ ap (with_set rest k) (ap (λ b. fold add b new.records) (set_at_with_set rows k []) ∙ fold_add new.records [] tt n.distinct)
      ∙ with_set_twice rows k [] (rows_of new.records)
      ∙ ap (λ b. cond b (with_set rows k (rows_of new.records)) rows) (sym is)
