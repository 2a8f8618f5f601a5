-- What an update changes that is answered with NoError (RFC 2136 section 3.4.2).
use Rattle.std.specs.Prelude.{◌==◌, ◌&&◌, ◌||◌, not, if◌then◌else◌, Bool, true, false, List, [], ◌∷◌, ℕ, length}
use Rattle.std.specs.List.{filter, fold, list_all}
use Rattle.std.specs.FinMap as rows_map
use Rattle.dns_wire.specs.codes.RecordType.{type_number}
use Rattle.dns_wire.specs.codes.SerialNumber.{serial_order}
use Rattle.dns_wire.specs.declared.codes.serial_number.SerialOrder.{SerialOrder}
use Rattle.dns_wire.specs.declared.codes.serial_number.SerialOrder.TheVariants as order
use Rattle.dns_wire.specs.declared.codes.record_type.RecordType.{RecordType}
use Rattle.dns_wire.specs.declared.codes.record_type.RecordType.TheVariants as types
use Rattle.dns_wire.specs.declared.codes.dns_class.DNSClass.{DNSClass}
use Rattle.dns_wire.specs.declared.codes.dns_class.DNSClass.TheVariants as classes
use Rattle.dns_names.specs.Name.{DomainName}
use Rattle.dns_names.specs.Compare.{same_labels}
use Rattle.dns_data.specs.declared.rdata.RData.{RData}
use Rattle.dns_data.specs.declared.rdata.RData.TheVariants as of
use Rattle.dns_data.specs.rdata.{same_data}
use Rattle.dns_records.specs.declared.row.Row.{Row}
use Rattle.dns_records.specs.Record.{Record}
use Rattle.dns_records.specs.Rows.{Rows, key, type_of_record, row_of, key_of, set_of, with_set}
use Rattle.dns_messages.specs.declared.message.Message.{Message}
use Rattle.dns_updates.specs.Records.{is_of_type, is_origin, has_set, has_rows_but}

-- ---- additions (RFC 2136 section 3.4.2.2)

-- the row replaces one with equal data, or is the last
abbrev pub with_row : List Row → Row → List Row
with_row [] row = row ∷ []
with_row (old ∷ more) row = if same_data old.rdata row.rdata then row ∷ more else old ∷ with_row more row

-- whether one serial number precedes another; neither does if they are equal or 2^31 apart
abbrev pub is_less : SerialOrder → Bool
is_less order.Less = true
is_less other = false

-- whether the serial number of an SOA is greater (RFC 1982 section 3.2)
abbrev pub succeeds : RData → RData → Bool
succeeds (of.SOA new) (of.SOA old) = is_less (serial_order old.serial new.serial)
succeeds new old = false

-- whether there is an SOA, and a record is an SOA with a greater serial number
abbrev pub succeeds_soa : List Row → Record → Bool
succeeds_soa [] r = false
succeeds_soa (old ∷ more) r = succeeds r.rdata old.rdata

-- whether an addition is ignored: a CNAME beside rows of another type, any other row beside a CNAME, and an SOA that does not
-- succeed one
abbrev pub is_ignored : Rows → Record → Bool
is_ignored rows r =
    if is_of_type types.CNAME r then has_rows_but rows r.name types.CNAME
    else has_set rows r.name types.CNAME || (is_of_type types.SOA r && not (succeeds_soa (set_of rows r) r))

-- the set with the row of an addition; a CNAME or an SOA is the only row of its set
abbrev pub set_with : Rows → Record → List Row
set_with rows r =
    if is_of_type types.CNAME r || is_of_type types.SOA r then row_of r ∷ []
    else with_row (set_of rows r) (row_of r)

-- the rows after an addition
abbrev pub added : Rows → Record → Rows
added rows r = if is_ignored rows r then rows else with_set rows (key_of r) (set_with rows r)

-- ---- deletions (RFC 2136 sections 3.4.2.3 and 3.4.2.4)

-- whether a set is kept by deletions of sets: SOA and NS at the origin
abbrev pub is_kept_set : DomainName → DomainName → ℕ → Bool
is_kept_set origin owner number =
    is_origin origin owner && ((number == type_number types.SOA) || (number == type_number types.NS))

-- the rows without those of a name
abbrev pub without_name : DomainName → Rows → DomainName → Rows
without_name origin rows owner =
    rows_map.retain_keys rows (λ k. not (same_labels owner.labels k.0) || is_kept_set origin owner k.1)

-- the rows without those of a name and a type
abbrev pub without_set : DomainName → Rows → DomainName → RecordType → Rows
without_set origin rows owner t =
    if is_kept_set origin owner (type_number t) then rows else rows_map.remove rows (key owner.labels t)

-- rows without those of equal data
abbrev pub without_data : List Row → RData → List Row
without_data rows d = filter (λ row. not (same_data row.rdata d)) rows

-- whether deletions of rows keep a record's set: an SOA, and the last NS at the origin
abbrev pub keeps_rows : DomainName → Rows → Record → Bool
keeps_rows origin rows r =
    is_of_type types.SOA r
    || (is_of_type types.NS r && (is_origin origin r.name && (length (set_of rows r) == 1)))

-- the rows after the deletion of the rows with the data of a record
abbrev pub without_row : DomainName → Rows → Record → Rows
without_row origin rows r =
    if keeps_rows origin rows r then rows else with_set rows (key_of r) (without_data (set_of rows r) r.rdata)

-- ---- updates

-- the rows after an update of a class: IN adds, ANY deletes sets, and NONE deletes rows
abbrev pub change_of_class : DomainName → Rows → DNSClass → Record → Rows
change_of_class origin rows classes.IN r = added rows r
change_of_class origin rows classes.ANY r =
    if is_of_type types.ANY r then without_name origin rows r.name
    else without_set origin rows r.name (type_of_record r)
change_of_class origin rows classes.NONE r = without_row origin rows r
change_of_class origin rows other r = rows

-- Whether an update puts its row into the set of its owner and type: an addition that is not ignored, of neither a CNAME nor an
-- SOA.
abbrev pub is_put : Rows → DNSClass → Record → Bool
is_put rows classes.IN r =
    not (is_of_type types.CNAME r || is_of_type types.SOA r) && not (has_set rows r.name types.CNAME)
is_put rows other r = false

-- the rows after an update
abbrev pub change : DomainName → Rows → Record → Rows
change origin rows r = change_of_class origin rows r.dns_class r

-- Whether an update is without effect because its type, its class, a CNAME at its owner or its set forbids the change: an addition
-- that is ignored and is no CNAME, a deletion of a set or a row that is kept, and an update of another class.
abbrev pub is_void_in_class : DomainName → Rows → DNSClass → Record → Bool
is_void_in_class origin rows classes.IN r = not (is_of_type types.CNAME r) && is_ignored rows r
is_void_in_class origin rows classes.ANY r =
    not (is_of_type types.ANY r) && is_kept_set origin r.name (type_number (type_of_record r))
is_void_in_class origin rows classes.NONE r = keeps_rows origin rows r
is_void_in_class origin rows other r = true

-- whether all updates are without effect for these reasons
abbrev pub are_void : DomainName → Rows → List Record → Bool
are_void origin rows records = list_all (λ r. is_void_in_class origin rows r.dns_class r) records

-- the rows after all updates, in order
abbrev pub update_change : DomainName → Rows → Message → Rows
update_change origin rows m = fold (change origin) rows m.authorities
