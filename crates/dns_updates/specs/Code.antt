-- The code with which an update is answered (RFC 2136 sections 3.1, 3.2 and 3.4.1): that of its first fault, or NoError.
use Rattle.std.specs.Prelude.{◌==◌, ◌&&◌, ◌||◌, not, map, if◌then◌else◌, Bool, true, List, [], ◌∷◌}
use Rattle.std.specs.List.{list_all, filter}
use Rattle.dns_wire.specs.declared.codes.record_type.RecordType.TheVariants as types
use Rattle.dns_wire.specs.declared.codes.dns_class.DNSClass.{DNSClass}
use Rattle.dns_wire.specs.declared.codes.dns_class.DNSClass.TheVariants as classes
use Rattle.dns_names.specs.Name.{DomainName}
use Rattle.dns_names.specs.Compare.{same_labels}
use Rattle.dns_data.specs.declared.rdata.RData.{RData}
use Rattle.dns_records.specs.Record.{Record}
use Rattle.dns_records.specs.Rows.{Rows, rows_at, type_of_record}
use Rattle.dns_messages.specs.declared.response_code.ResponseCode.{ResponseCode}
use Rattle.dns_messages.specs.declared.response_code.ResponseCode.TheVariants.{NoError, FormErr, NXDomain, YXDomain, YXRRSet, NXRRSet, NotAuth, NotZone}
use Rattle.dns_messages.specs.declared.query.Query.{Query}
use Rattle.dns_messages.specs.declared.message.Message.{Message}
use Rattle.dns_updates.specs.Records.{is_type, is_of_type, is_in_class, has_data, is_in_zone, is_origin, is_meta_type, is_transfer_type, has_set, has_rows, same_data_set}

-- a fault, or else the code that comes next
abbrev pub first_fault : ResponseCode → ResponseCode → ResponseCode
first_fault NoError next = next
first_fault fault next = fault

-- the first fault of some items, in order, or NoError
abbrev pub first_fault_of : {A : Type 0} → (A → ResponseCode) → List A → ResponseCode
first_fault_of code [] = NoError
first_fault_of code (x ∷ xs) = first_fault (code x) (first_fault_of code xs)

-- a fault, if a test holds
abbrev pub fault_if : Bool → ResponseCode → ResponseCode
fault_if test fault = if test then fault else NoError

-- The zone section: one entry, of type SOA, for the zone and its class (RFC 2136 section 3.1.1).
abbrev pub zone_code : DomainName → List Query → ResponseCode
zone_code origin (q ∷ []) =
    first_fault (fault_if (not (is_type types.SOA q.query_type)) FormErr)
    (fault_if (not (is_origin origin q.name && is_in_class q.query_class)) NotAuth)
zone_code origin other = FormErr

-- ---- prerequisites (RFC 2136 section 3.2)

-- something exists: the name has rows, or rows of the type
abbrev pub existence_code : Rows → Record → ResponseCode
existence_code rows r =
    if is_of_type types.ANY r then fault_if (not (has_rows rows r.name)) NXDomain
    else fault_if (not (has_set rows r.name (type_of_record r))) NXRRSet

-- nothing exists: the name has no rows, or none of the type
abbrev pub absence_code : Rows → Record → ResponseCode
absence_code rows r =
    if is_of_type types.ANY r then fault_if (has_rows rows r.name) YXDomain
    else fault_if (has_set rows r.name (type_of_record r)) YXRRSet

-- the test of a record of a class
abbrev pub test_code : Rows → DNSClass → Record → ResponseCode
test_code rows classes.ANY r = first_fault (fault_if (has_data r) FormErr) (existence_code rows r)
test_code rows classes.NONE r = first_fault (fault_if (has_data r) FormErr) (absence_code rows r)
test_code rows classes.IN r = NoError
test_code rows other r = FormErr

-- the code of a prerequisite: its TTL is zero, its owner is in the zone, and its test passes
abbrev pub prerequisite_code : DomainName → Rows → Record → ResponseCode
prerequisite_code origin rows r =
    first_fault (fault_if (not (r.ttl == 0)) FormErr)
    (first_fault (fault_if (not (is_in_zone origin r.name)) NotZone) (test_code rows r.dns_class r))

-- whether a prerequisite is of class IN, and of the owner and type of a record
abbrev pub is_required_with : Record → Record → Bool
is_required_with r p =
    is_in_class p.dns_class && (same_labels r.name.labels p.name.labels && is_type (type_of_record r) (type_of_record p))

-- the data that prerequisites of class IN require of the owner and type of a record, in order
abbrev pub required_data : List Record → Record → List RData
required_data prerequisites r = map (λ p. p.rdata) (filter (is_required_with r) prerequisites)

-- The zone has each set of data that is required (RFC 2136 section 3.2.3); TTLs do not count.
abbrev pub has_required : Rows → List Record → Record → Bool
has_required rows prerequisites r =
    same_data_set (required_data prerequisites r) (map (λ row. row.rdata) (rows_at rows r.name.labels (type_of_record r)))

-- NXRRSet, unless the zone has every set of data that is required (RFC 2136 section 3.2.3)
abbrev pub sets_code : Rows → List Record → ResponseCode
sets_code rows prerequisites =
    fault_if (not (list_all (has_required rows prerequisites) (filter (λ r. is_in_class r.dns_class) prerequisites))) NXRRSet

-- ---- updates (RFC 2136 section 3.4.1)

-- whether an addition lacks data, or has a type that no row can have
abbrev pub is_bad_addition : Record → Bool
is_bad_addition r = is_meta_type (type_of_record r) || not (has_data r)

-- whether a deletion of sets has a TTL or data, or a type that only questions have other than ANY
abbrev pub is_bad_set_deletion : Record → Bool
is_bad_set_deletion r = not (r.ttl == 0) || (has_data r || is_transfer_type (type_of_record r))

-- whether a deletion of a row has a TTL, or a type that only questions have
abbrev pub is_bad_row_deletion : Record → Bool
is_bad_row_deletion r = not (r.ttl == 0) || (is_of_type types.ANY r || is_transfer_type (type_of_record r))

-- whether an update breaks the rules of its class, or has a class without rules (RFC 2136 section 3.4.1.2)
abbrev pub is_malformed : DNSClass → Record → Bool
is_malformed classes.IN r = is_bad_addition r
is_malformed classes.ANY r = is_bad_set_deletion r
is_malformed classes.NONE r = is_bad_row_deletion r
is_malformed other r = true

-- the code of an update before any is applied: its owner is in the zone, and it is not malformed (RFC 2136 section 3.4.1)
abbrev pub prescan_code : DomainName → Record → ResponseCode
prescan_code origin r =
    first_fault (fault_if (not (is_in_zone origin r.name)) NotZone) (fault_if (is_malformed r.dns_class r) FormErr)

-- ---- the whole message

-- zone section, prerequisites, required sets, updates
abbrev pub update_code : DomainName → Rows → Message → ResponseCode
update_code origin rows m =
    first_fault (zone_code origin m.queries)
    (first_fault (first_fault_of (prerequisite_code origin rows) m.answers)
    (first_fault (sets_code rows m.answers)
    (first_fault_of (prescan_code origin) m.authorities)))
