-- Two grants: the holders of the key `k.` may change the TXT records at and below `c.`, and those of `j.` all records there. A permitted
-- update replaces the TXT record of `c.` and leaves its other sets. An update that deletes all sets of `c.` is permitted to the holders of
-- `j.` alone, and leaves the SOA record of the zone. To those of `k.` it is not permitted, and would delete a set that they may not change.
use Rattle.std.proofs.Common.{◌≡◌, ◌≢◌, ◌≤◌, ◌∙◌, ◌||◌, arith, ℕ, Bool, true, false, cond, not, List, [], ◌∷◌, length, refl, sym, ap, Option, Some, None, unwrap_or}
use Rattle.std.specs.Prelude.{is_some}
use Rattle.std.specs.FinMap as rows_map
use Rattle.std.specs.Global.{Global, Vec}
use Rattle.std.specs.Ordering.{eq_by_cmp}
use denote.RawPtr.{null_ptr}
use Rattle.dns_wire.specs.declared.codes.dns_class.DNSClass.TheVariants as classes
use Rattle.dns_wire.specs.declared.codes.record_type.RecordType.{RecordType}
use Rattle.dns_wire.specs.declared.codes.record_type.RecordType.TheVariants as types
use Rattle.dns_names.specs.Compare.{same_labels}
use Rattle.dns_names.specs.Name.{DomainName}
use Rattle.dns_names.proofs.ComparisonLaws.{at_or_below-lower, lower-same, same_labels-true}
use Rattle.dns_data.specs.declared.rdata.RData.{RData}
use Rattle.dns_data.specs.declared.rdata.RData.TheVariants as of
use Rattle.dns_messages.specs.Header.{new_metadata}
use Rattle.dns_messages.specs.Message.{empty_message}
use Rattle.dns_messages.specs.declared.message.Message.{Message}
use Rattle.dns_messages.specs.declared.message_type.MessageType.TheVariants as kinds
use Rattle.dns_messages.specs.declared.op_code.OpCode.TheVariants as ops
use Rattle.dns_records.specs.Record.{Record}
use Rattle.dns_records.specs.Rows.{Key, Rows, key_cmp, set_of, with_set}
use Rattle.dns_records.specs.declared.row.Row.{Row}
use Rattle.dns_updates.specs.Change.{change, is_kept_set, update_change, with_row, without_data}
use Rattle.dns_updates.proofs.UpdateLaws.Maps.{key_antisymmetric, key_total}
use Rattle.dns_keys.specs.declared.grants.grant.Grant.{Grant}
use Rattle.dns_keys.specs.grants.Grant.{may_change, permits}
use Rattle.dns_keys.proofs.GrantLaws.{nothing_else}

-- ---- the zone

abbrev root : DomainName
root = record { is_fqdn = true; labels = [] }

-- the name `c.`
abbrev host : DomainName
host = record { is_fqdn = true; labels = (99 ∷ []) ∷ [] }

abbrev row : RData → Row
row rdata = record { ttl = 60; rdata = rdata }

abbrev start : Row
start = row (of.SOA (record { mname = root; rname = root; serial = 5; refresh = 4; retry = 3; expire = 2; minimum = 1 }))

abbrev exchange : Row
exchange = row (of.MX (record { preference = 10; exchange = root }))

abbrev note : ℕ → Row
note letter = row (of.TXT ((letter ∷ []) ∷ []))

abbrev start_key : Key
start_key = ([], 6)

abbrev exchange_key : Key
exchange_key = ((99 ∷ []) ∷ [], 15)

abbrev note_key : Key
note_key = ((99 ∷ []) ∷ [], 16)

-- the key of the aliases of `c.`, of which there are none
abbrev alias_key : Key
alias_key = ((99 ∷ []) ∷ [], 5)

abbrev stored_rows : List (Key × List Row)
stored_rows = (start_key, start ∷ []) ∷ (exchange_key, exchange ∷ []) ∷ (note_key, note 97 ∷ []) ∷ []

abbrev rows : Rows
rows = rows_map.from_sorted stored_rows

got : (k : Key) → rows_map.get rows k ≡ rows_map.find key_cmp k stored_rows
got k = rows_map.get-from_sorted key_cmp stored_rows k tt

-- ---- the grants

abbrev note_holder : List ℕ
note_holder = 1 ∷ 107 ∷ 0 ∷ []

abbrev host_holder : List ℕ
host_holder = 1 ∷ 106 ∷ 0 ∷ []

abbrev types_of : Global → (items : List RecordType) → length items ≤ 8 → Vec RecordType
types_of heap items few = record { ptr = null_ptr; len = length items; cap = length items; alloc = heap; items = items; ok = (refl, omega arith); small = omega (arith, few) }

abbrev grants : Global → List Grant
grants heap =
    record { key = record { items = note_holder }; subtree = host; types = types_of heap (types.TXT ∷ []) (omega arith) }
    ∷ record { key = record { items = host_holder }; subtree = host; types = types_of heap [] (omega arith) }
    ∷ []

-- ---- updates

abbrev update_of : List Record → Message
update_of records = record (empty_message (new_metadata 0 kinds.Query ops.Update)) {
  queries = record { name = root; query_type = types.SOA; query_class = classes.IN } ∷ [];
  authorities = records;
}

abbrev addition : Record
addition = record { name = host; dns_class = classes.IN; ttl = 60; rdata = of.TXT ((98 ∷ []) ∷ []) }

abbrev deletion : Record
deletion = record { name = host; dns_class = classes.NONE; ttl = 0; rdata = of.TXT ((97 ∷ []) ∷ []) }

-- another TXT record of `c.` in place of the one that it has
abbrev replacement : Message
replacement = update_of (addition ∷ deletion ∷ [])

-- no sets of `c.`
abbrev clearance : Message
clearance = update_of (record { name = host; dns_class = classes.ANY; ttl = 0; rdata = of.Update0 types.ANY } ∷ [])

-- what the law says
kept : (granted : List Grant) (name : List ℕ) (update : Message) (at : Key) → permits granted name update ≡ true → may_change granted name at.0 at.1 ≡ false
    → rows_map.get (update_change root rows update) at ≡ rows_map.get rows at
kept granted name update at permitted closed =
    nothing_else at_or_below-lower (λ a b. (same_labels-true a b, lower-same a b)) granted name root update.authorities rows at permitted closed

-- ---- an update that replaces a record

abbrev grown : Rows
grown = rows_map.insert rows note_key (note 97 ∷ note 98 ∷ [])

got_grown : (k : Key) → rows_map.get grown k ≡ cond (eq_by_cmp key_cmp k note_key) (Some (note 97 ∷ note 98 ∷ [])) (rows_map.get rows k)
got_grown k = rows_map.get-insert key_total rows note_key (note 97 ∷ note 98 ∷ []) k

added_is : change root rows addition ≡ grown
added_is =
    ap (λ (o : Option (List Row)). cond (is_some o || false) rows (with_set rows note_key (with_row (set_of rows addition) (note 98)))) (got alias_key)
    ∙ ap (λ (o : Option (List Row)). with_set rows note_key (with_row (unwrap_or o []) (note 98))) (got note_key)

deleted_is : change root grown deletion ≡ rows_map.insert grown note_key (note 98 ∷ [])
deleted_is =
    ap (λ (o : Option (List Row)). with_set grown note_key (without_data (unwrap_or o []) (note 97).rdata)) (got_grown note_key)

replaced_is : update_change root rows replacement ≡ rows_map.insert grown note_key (note 98 ∷ [])
replaced_is = ap (λ (r : Rows). change root r deletion) added_is ∙ deleted_is

-- its holders may make it, and no change of the MX records
pub replacement_permitted : (heap : Global) → permits (grants heap) note_holder replacement ≡ true
replacement_permitted heap = refl

pub exchange_closed : (heap : Global) → may_change (grants heap) note_holder exchange_key.0 exchange_key.1 ≡ false
exchange_closed heap = refl

-- it changes the TXT records
pub note_is_replaced : rows_map.get (update_change root rows replacement) note_key ≡ Some (note 98 ∷ [])
note_is_replaced =
    ap (λ (r : Rows). rows_map.get r note_key) replaced_is ∙ rows_map.get-insert key_total grown note_key (note 98 ∷ []) note_key

-- and leaves the MX records
pub exchange_is_kept : (heap : Global) → rows_map.get (update_change root rows replacement) exchange_key ≡ Some (exchange ∷ [])
exchange_is_kept heap = kept (grants heap) note_holder replacement exchange_key (replacement_permitted heap) (exchange_closed heap) ∙ got exchange_key

-- ---- an update that deletes all sets of a name

-- the other holders may make it, and no change of the SOA record
pub clearance_permitted : (heap : Global) → permits (grants heap) host_holder clearance ≡ true
clearance_permitted heap = refl

pub start_closed : (heap : Global) → may_change (grants heap) host_holder start_key.0 start_key.1 ≡ false
start_closed heap = refl

pub start_is_kept : (heap : Global) → rows_map.get (update_change root rows clearance) start_key ≡ Some (start ∷ [])
start_is_kept heap = kept (grants heap) host_holder clearance start_key (clearance_permitted heap) (start_closed heap) ∙ got start_key

-- the holders for TXT records may not
pub clearance_refused : (heap : Global) → permits (grants heap) note_holder clearance ≡ false
clearance_refused heap = refl

abbrev stays : Key → Bool
stays k = not (same_labels host.labels k.0) || is_kept_set root host k.1

cleared : (k : Key) → rows_map.get (update_change root rows clearance) k ≡ cond (stays k) (rows_map.get rows k) None
cleared k = rows_map.get-retain_keys rows stays k (λ x tied. ap stays (sym (key_antisymmetric k x tied)))

-- it would delete the MX records, which they may not change
pub exchange_would_be_lost : rows_map.get (update_change root rows clearance) exchange_key ≢ rows_map.get rows exchange_key
exchange_would_be_lost same = let never : None ≡ Some (exchange ∷ []) = sym (cleared exchange_key) ∙ same ∙ got exchange_key in absurd (cc)
