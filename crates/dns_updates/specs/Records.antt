-- What updates ask of records and of the rows of a zone (RFC 2136 sections 2.4 and 2.5).
use Rattle.std.specs.Prelude.{◌≡◌, ◌≢◌, ◌==◌, ◌&&◌, ◌||◌, nat_le, not, Bool, true, false, List, ℕ, None}
use Rattle.std.specs.List.{list_any, list_all}
use Rattle.std.specs.FinMap as rows_map
use Rattle.dns_wire.specs.codes.RecordType.{type_number}
use Rattle.dns_wire.specs.declared.codes.record_type.RecordType.{RecordType}
use Rattle.dns_wire.specs.declared.codes.record_type.RecordType.TheVariants as types
use Rattle.dns_wire.specs.declared.codes.dns_class.DNSClass.{DNSClass}
use Rattle.dns_wire.specs.declared.codes.dns_class.DNSClass.TheVariants as classes
use Rattle.dns_names.specs.Name.{DomainName}
use Rattle.dns_names.specs.Compare.{same_labels, at_or_below}
use Rattle.dns_data.specs.declared.rdata.RData.{RData}
use Rattle.dns_data.specs.rdata.{same_data, is_update_data}
use Rattle.dns_records.specs.Record.{Record}
use Rattle.dns_records.specs.Rows.{Key, Rows, key, type_of_record}

-- ---- records

-- types are the same if their numbers are
abbrev pub is_type : RecordType → RecordType → Bool
is_type t u = type_number t == type_number u

-- whether a record is of a type
abbrev pub is_of_type : RecordType → Record → Bool
is_of_type t r = is_type t (type_of_record r)

-- whether a class is IN, the class of the zones that are served here
abbrev pub is_in_class : DNSClass → Bool
is_in_class classes.IN = true
is_in_class other = false

-- whether a record has data, unlike most prerequisites and deletions (RFC 2136 section 2.4)
abbrev pub has_data : Record → Bool
has_data r = not (is_update_data r.rdata)

-- whether a name is at or below the origin of a zone
abbrev pub is_in_zone : DomainName → DomainName → Bool
is_in_zone origin owner = at_or_below origin.labels owner.labels

-- whether a name is the origin of a zone, ignoring ASCII case
abbrev pub is_origin : DomainName → DomainName → Bool
is_origin origin owner = same_labels origin.labels owner.labels

-- types that no row has: 0, OPT, and 128 to 255 (RFC 6895 section 3.1), and SIG, which only signs messages (RFC 2931)
abbrev pub is_meta_number : ℕ → Bool
is_meta_number number =
    (number == 0) || ((number == 24) || ((number == 41) || (nat_le 128 number && nat_le number 255)))

-- whether a type is one that no row has
abbrev pub is_meta_type : RecordType → Bool
is_meta_type t = is_meta_number (type_number t)

-- AXFR, MAILB and MAILA, which only questions have (RFC 1035 section 3.2.3)
abbrev pub is_transfer_type : RecordType → Bool
is_transfer_type t = nat_le 252 (type_number t) && nat_le (type_number t) 254

-- ---- rows

-- whether a name has rows of a type
abbrev pub has_set : Rows → DomainName → RecordType → Bool
has_set rows owner t = rows_map.contains_key rows (key owner.labels t)

-- whether a name has rows
abbrev pub has_rows : Rows → DomainName → Bool
has_rows rows owner = list_any (λ k. same_labels owner.labels k.0) (rows_map.keys rows)

-- whether a name has rows of another type
abbrev pub has_rows_but : Rows → DomainName → RecordType → Bool
has_rows_but rows owner t =
    list_any (λ k. same_labels owner.labels k.0 && not (type_number t == k.1)) (rows_map.keys rows)

-- the key of the CNAME rows at the owner of a key
abbrev pub alias_key : Key → Key
alias_key k = (k.0, type_number types.CNAME)

-- no name has rows of another type beside a CNAME (RFC 1034 section 3.6.2)
abbrev pub AreAliasesAlone : Rows → Type 0
AreAliasesAlone rows = (k : Key) → rows_map.contains_key rows (alias_key k) ≡ true
    → k.1 ≢ type_number types.CNAME → rows_map.get rows k ≡ None

-- ---- sets of data

-- whether equal data is in a list
abbrev pub is_among : List RData → RData → Bool
is_among xs d = list_any (same_data d) xs

-- whether two lists have the same data, in any order (RFC 2136 section 1.1.1)
abbrev pub same_data_set : List RData → List RData → Bool
same_data_set xs ys = list_all (is_among ys) xs && list_all (is_among xs) ys
