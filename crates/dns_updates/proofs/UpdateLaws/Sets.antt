-- Updates of one set: the records of a set pass, and change its rows alone.
use Rattle.std.proofs.Common.{◌≡◌, ◌==◌, ◌↔◌, ℕ, Bool, true, false, cond, not, ◌&&◌, ◌||◌, List, [], ◌∷◌, refl, sym, ap, ◌∙◌, is_some}
use Rattle.std.specs.Ordering.{eq_by_cmp}
use Rattle.std.specs.Str.{str_to_ascii_lowercase}
use Rattle.std.proofs.lemmas.Str.Ascii.{lowercase-lowercase}
use Rattle.std.specs.FinMap as rows_map
use Rattle.dns_wire.specs.codes.RecordType.{type_number}
use Rattle.dns_wire.specs.declared.codes.record_type.RecordType.{RecordType}
use Rattle.dns_wire.specs.declared.codes.record_type.RecordType.TheVariants as types
use Rattle.dns_wire.specs.declared.codes.dns_class.DNSClass.{DNSClass}
use Rattle.dns_wire.specs.declared.codes.dns_class.DNSClass.TheVariants as classes
use Rattle.dns_names.specs.Name.{DomainName}
use Rattle.dns_names.specs.Compare.{lower, same_labels, at_or_below}
use Rattle.dns_records.specs.declared.row.Row.{Row}
use Rattle.dns_records.specs.Record.{Record}
use Rattle.dns_records.specs.Rows.{Key, Rows, key, key_cmp, key_of, row_of, set_key, set_of, type_of_record, with_set}
use Rattle.dns_messages.specs.declared.response_code.ResponseCode.TheVariants.{NoError, FormErr, NotAuth, NotZone}
use Rattle.dns_updates.specs.Records.{is_type, is_of_type, is_in_class, is_in_zone, is_origin, is_meta_type, is_transfer_type, has_set}
use Rattle.dns_updates.specs.Code.{zone_code, prescan_code, is_malformed, fault_if, first_fault}
use Rattle.dns_updates.specs.Change.{with_row, without_data, change, change_of_class}
use Rattle.dns_records.specs.RecordSet.{RecordSetValue}
use Rattle.dns_updates.specs.Builders.{IsRecordOf, has_rules}
use Rattle.dns_updates.proofs.UpdateLaws.Maps.{same_key, set_at, get_other}
use Rattle.dns_updates.proofs.UpdateLaws.Lists.{add, delete}
use Rattle.dns_updates.proofs.UpdateLaws.Codes.{or_first, or_second, not_between, not_transfer}

-- ---- types

pub record IsPlain (t : RecordType) : Type 0 where
  pub cname : is_type types.CNAME t ≡ false
  pub soa : is_type types.SOA t ≡ false
  pub ns : is_type types.NS t ≡ false
  pub meta : is_meta_type t ≡ false
  pub any : is_type types.ANY t ≡ false
  pub transfer : is_transfer_type t ≡ false

pub plain_type : (t : RecordType) → has_rules t ≡ false → IsPlain t
plain_type t e =
    let a = or_second _ _ e in
    let b = or_second _ _ a in
    let meta : is_meta_type t ≡ false = or_second _ _ b in
    let c = or_second (type_number t == 0) _ meta in
    let d = or_second (type_number t == 24) _ c in
    let high = or_second (type_number t == 41) _ d in
    record {
      cname = or_first _ _ e;
      soa = or_first _ _ a;
      ns = or_first _ _ b;
      meta = meta;
      any = not_between (type_number t) high;
      transfer = not_transfer (type_number t) high;
    }

-- ---- keys

alias_apart : (owner : List (List ℕ)) (t : RecordType) → is_type types.CNAME t ≡ false → eq_by_cmp key_cmp (key owner types.CNAME) (key owner t) ≡ false
alias_apart owner t e = by (eq_by_cmp key_cmp (key owner types.CNAME) (key owner t)) refl
  where
    by : (b : Bool) → eq_by_cmp key_cmp (key owner types.CNAME) (key owner t) ≡ b → b ≡ false
    by true h =
        let same : 5 ≡ type_number t = ap (λ (k : Key). k.1) (same_key (key owner types.CNAME) (key owner t) h) in
        let here : (5 == type_number t) ≡ true = ap (λ n. 5 == n) (sym same) in
        sym here ∙ e
    by false h = refl

-- no alias stands at the owner of a set
abbrev pub NoAlias : RecordSetValue → Rows → Type 0
NoAlias s rows = has_set rows s.name types.CNAME ≡ false

pub keeps_no_alias : (s : RecordSetValue) → is_type types.CNAME s.record_type ≡ false → (rows : Rows) (st : List Row) → NoAlias s rows → NoAlias s (with_set rows (set_key s) st)
keeps_no_alias s e rows st h = ap is_some (get_other rows (set_key s) st (key s.name.labels types.CNAME) (alias_apart s.name.labels s.record_type e)) ∙ h

abbrev pub Alike : Type 0
Alike = (a b : List (List ℕ)) → (same_labels a b ≡ true) ↔ (lower a ≡ lower b)

abbrev pub InZoneAlike : Type 0
InZoneAlike = (o p a b : List (List ℕ)) → lower o ≡ lower p → lower a ≡ lower b → at_or_below o a ≡ at_or_below p b

pub label_twice : (l : List ℕ) → str_to_ascii_lowercase (str_to_ascii_lowercase l) ≡ str_to_ascii_lowercase l
label_twice [] = refl
label_twice (c ∷ cs) = λ i. lowercase-lowercase c i ∷ label_twice cs i

pub lower_twice : (labels : List (List ℕ)) → lower (lower labels) ≡ lower labels
lower_twice [] = refl
lower_twice (l ∷ labels) = λ i. label_twice l i ∷ lower_twice labels i

pub zone_passes : Alike → (origin : DomainName) (c : DNSClass) → c ≡ classes.IN → zone_code origin (record { name = origin; query_type = types.SOA; query_class = c } ∷ []) ≡ NoError
zone_passes alike origin c e =
    ap (λ x. fault_if (not (is_origin origin origin && is_in_class x)) NotAuth) e
    ∙ ap (λ b. fault_if (not (b && true)) NotAuth) ((alike origin.labels origin.labels).1 refl)

module _ (alike : Alike) (s : RecordSetValue) (r : Record) (h : IsRecordOf s r) where
  lower_owner : lower r.name.labels ≡ lower s.name.labels
  lower_owner = (alike r.name.labels s.name.labels).0 h.owner

  pub record_key : key_of r ≡ set_key s
  unfolding lower_owner
  record_key = λ i. (lower_owner i, type_number (h.of_type i))

  alias_key : key r.name.labels types.CNAME ≡ key s.name.labels types.CNAME
  alias_key = λ i. (lower_owner i, type_number types.CNAME)

  pub owner_in_zone : InZoneAlike → (origin : DomainName) → is_in_zone origin r.name ≡ is_in_zone origin s.name
  owner_in_zone inside origin = inside origin.labels origin.labels r.name.labels s.name.labels refl lower_owner

  of_type : (t : RecordType) (b : Bool) → is_type t s.record_type ≡ b → is_of_type t r ≡ b
  of_type t b e = ap (is_type t) h.of_type ∙ e

  -- ---- additions

  pub addition : (origin : DomainName) → s.dns_class ≡ classes.IN → IsPlain s.record_type → (rows : Rows) → NoAlias s rows
      → change origin rows r ≡ with_set rows (set_key s) (add (set_at rows (set_key s)) r)
  addition origin in_class plain rows none =
      let cname : is_of_type types.CNAME r ≡ false = of_type types.CNAME false plain.cname in
      let soa : is_of_type types.SOA r ≡ false = of_type types.SOA false plain.soa in
      let no_alias : has_set rows r.name types.CNAME ≡ false = ap (λ k. is_some (rows_map.get rows k)) alias_key ∙ none in
      ap (λ c. change_of_class origin rows c r) (h.of_class ∙ in_class)
      ∙ plainly rows (is_of_type types.CNAME r) (is_of_type types.SOA r) (has_set rows r.name types.CNAME) _ _ cname soa no_alias
      ∙ ap (λ k. with_set rows k (add (set_at rows k) r)) record_key
    where
      plainly : (rows : Rows) (c o n u v : Bool) → c ≡ false → o ≡ false → n ≡ false
          → cond (cond c u (n || (o && v))) rows (with_set rows (key_of r) (cond (c || o) (row_of r ∷ []) (with_row (set_of rows r) (row_of r))))
          ≡ with_set rows (key_of r) (with_row (set_of rows r) (row_of r))
      plainly rows c o n u v ec eo en =
          (λ i. cond (cond (ec i) u (en i || (eo i && v))) rows (with_set rows (key_of r) (cond (ec i || eo i) (row_of r ∷ []) (with_row (set_of rows r) (row_of r)))))

  pub addition_passes : InZoneAlike → (origin : DomainName) → is_in_zone origin s.name ≡ true → s.dns_class ≡ classes.IN → IsPlain s.record_type → prescan_code origin r ≡ NoError
  addition_passes inside origin in_zone in_class plain =
      let meta : is_meta_type (type_of_record r) ≡ false = ap is_meta_type h.of_type ∙ plain.meta in
      ap (λ c. first_fault (fault_if (not (is_in_zone origin r.name)) NotZone) (fault_if (is_malformed c r) FormErr)) (h.of_class ∙ in_class)
      ∙ (λ i. first_fault (fault_if (not ((owner_in_zone inside origin ∙ in_zone) i)) NotZone) (fault_if (meta i || not (h.filled i)) FormErr))

  -- ---- deletions

  pub deletion : (origin : DomainName) → IsPlain s.record_type → (rows : Rows)
      → change origin rows (record r { dns_class = classes.NONE; ttl = 0 }) ≡ with_set rows (set_key s) (delete (set_at rows (set_key s)) r)
  deletion origin plain rows =
      plainly rows (is_of_type types.SOA r) (is_of_type types.NS r) _ (of_type types.SOA false plain.soa) (of_type types.NS false plain.ns)
      ∙ ap (λ k. with_set rows k (delete (set_at rows k) r)) record_key
    where
      plainly : (rows : Rows) (o n u : Bool) → o ≡ false → n ≡ false
          → cond (o || (n && u)) rows (with_set rows (key_of r) (without_data (set_of rows r) r.rdata)) ≡ with_set rows (key_of r) (without_data (set_of rows r) r.rdata)
      plainly rows o n u eo en = λ i. cond (eo i || (en i && u)) rows (with_set rows (key_of r) (without_data (set_of rows r) r.rdata))

  pub deletion_passes : InZoneAlike → (origin : DomainName) → is_in_zone origin s.name ≡ true → IsPlain s.record_type
      → prescan_code origin (record r { dns_class = classes.NONE; ttl = 0 }) ≡ NoError
  deletion_passes inside origin in_zone plain =
      let transfer : is_transfer_type (type_of_record r) ≡ false = ap is_transfer_type h.of_type ∙ plain.transfer in
      λ i. first_fault (fault_if (not ((owner_in_zone inside origin ∙ in_zone) i)) NotZone) (fault_if (of_type types.ANY false plain.any i || transfer i) FormErr)
