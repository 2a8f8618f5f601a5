-- Updates of a small zone, computed with the definitions.
use Rattle.std.proofs.Common.{◌≡◌, ℕ, true, false, List, [], ◌∷◌, refl, sym, ◌∙◌, length, arith, Some}
use Rattle.std.specs.FinMap as rows_map
use Rattle.dns_wire.specs.declared.codes.record_type.RecordType.TheVariants as types
use Rattle.dns_wire.specs.declared.codes.dns_class.DNSClass.TheVariants as classes
use Rattle.dns_names.specs.Name.{DomainName}
use Rattle.dns_data.specs.declared.rdata.RData.{RData}
use Rattle.dns_data.specs.declared.rdata.RData.TheVariants as of
use Rattle.dns_records.specs.declared.row.Row.{Row}
use Rattle.dns_records.specs.Record.{Record}
use Rattle.dns_records.specs.Rows.{Key, Rows, key, key_cmp}
use Rattle.dns_messages.specs.declared.response_code.ResponseCode.TheVariants.{NoError, FormErr, YXRRSet, NotAuth, NotZone}
use Rattle.dns_messages.specs.declared.message.Message.{Message}
use Rattle.dns_records.specs.RecordSet.{RecordSetValue}
use Rattle.dns_messages.specs.Cut.{cut_form}
use Rattle.dns_updates.specs.Code.{update_code}
use Rattle.dns_updates.specs.Change.{update_change}
use Rattle.dns_updates.specs.Builders.{update_message, create_message, empty_record}
use Rattle.dns_updates.proofs.UpdateLaws.Maps.{key_total}

-- ---- the zone t.

abbrev name : List (List ℕ) → DomainName
name labels = record { is_fqdn = true; labels = labels }

abbrev t : DomainName
t = name ((116 ∷ []) ∷ [])

-- a name of one letter below t.
abbrev below : ℕ → DomainName
below letter = name ((letter ∷ []) ∷ (116 ∷ []) ∷ [])

abbrev address : ℕ → RData
address last = of.A (record { 0 = record { octets = 10 ∷ 0 ∷ 0 ∷ last ∷ [] } })

abbrev soa : RData
soa = of.SOA (record { mname = name ((110 ∷ 115 ∷ []) ∷ (116 ∷ []) ∷ []); rname = below 104; serial = 1; refresh = 3600; retry = 600; expire = 86400; minimum = 30 })

abbrev row : ℕ → RData → Row
row ttl d = record { ttl = ttl; rdata = d }

-- t. has an SOA, and a.t. an address
abbrev zone : Rows
zone = rows_map.from_entries ((key t.labels types.SOA, row 60 soa ∷ []) ∷ (key (below 97).labels types.A, row 60 (address 1) ∷ []) ∷ [])

abbrev addition : DomainName → ℕ → RData → Record
addition owner ttl d = record { name = owner; dns_class = classes.IN; ttl = ttl; rdata = d }

abbrev update : DomainName → List Record → Message
update origin updates = update_message 7 origin classes.IN false [] updates

-- ---- a set is created once

abbrev new_name : DomainName
new_name = name ((110 ∷ 101 ∷ 119 ∷ []) ∷ (116 ∷ []) ∷ [])

abbrev new_set : RecordSetValue
new_set = record { name = new_name; record_type = types.A; dns_class = classes.IN; ttl = 60; serial = 0; records = addition new_name 60 (address 9) ∷ [] }

abbrev creation : Message
creation = create_message 7 new_set t false

creation_bytes : cut_form 65535 creation ≡ 0 ∷ 7 ∷ 40 ∷ 0 ∷ 0 ∷ 1 ∷ 0 ∷ 1 ∷ 0 ∷ 1 ∷ 0 ∷ 0 ∷ 1 ∷ 116 ∷ 0 ∷ 0 ∷ 6 ∷ 0 ∷ 1 ∷ 3 ∷ 110 ∷ 101 ∷ 119 ∷ 192 ∷ 12 ∷ 0 ∷ 1 ∷ 0 ∷ 254 ∷ 0 ∷ 0 ∷ 0 ∷ 0 ∷ 0 ∷ 0 ∷ 192 ∷ 19 ∷ 0 ∷ 1 ∷ 0 ∷ 1 ∷ 0 ∷ 0 ∷ 0 ∷ 60 ∷ 0 ∷ 4 ∷ 10 ∷ 0 ∷ 0 ∷ 9 ∷ []
creation_bytes = refl

created_once : update_code t zone creation ≡ NoError
created_once = simp (rows_map.get-insert {X = List Row} key_total, rows_map.get-empty {X = List Row} key_cmp)

not_created_twice : update_code t (update_change t zone creation) creation ≡ YXRRSet
not_created_twice = simp (rows_map.get-insert {X = List Row} key_total, rows_map.get-empty {X = List Row} key_cmp)

-- ---- an alias beside an address is ignored

entries_empty : rows_map.entries (rows_map.empty {K = Key} {X = List Row} {R = key_cmp}) ≡ []
entries_empty = none (rows_map.entries _) (sym (rows_map.len-entries _) ∙ rows_map.len-empty key_cmp (List Row))
  where
    none : (es : List (Key × List Row)) → length es ≡ 0 → es ≡ []
    none [] e = refl
    none (x ∷ es) e = absurd (omega arith)

abbrev alias : Message
alias = update t (addition (below 97) 60 (of.CNAME (record { 0 = below 98 })) ∷ [])

alias_code : update_code t zone alias ≡ NoError
alias_code = refl

alias_change : update_change t zone alias ≡ zone
alias_change = simp (rows_map.entries-insert {X = List Row} key_total, entries_empty)

-- ---- an addition has data

abbrev without_data : Message
without_data = update t (addition (below 97) 60 (of.Update0 types.A) ∷ [])

without_data_code : update_code t zone without_data ≡ FormErr
without_data_code = refl

-- ---- a row outside the zone, behind one inside

abbrev outside : Message
outside = update t (addition (below 98) 60 (address 2) ∷ addition (name ((97 ∷ []) ∷ (117 ∷ []) ∷ [])) 60 (address 2) ∷ [])

outside_code : update_code t zone outside ≡ NotZone
outside_code = refl

-- ---- another zone

another_zone : update_code t zone (update (name ((117 ∷ []) ∷ [])) []) ≡ NotAuth
another_zone = refl

-- ---- the SOA is not deleted

abbrev soa_deletion : Message
soa_deletion = update t (empty_record classes.ANY t types.SOA ∷ [])

soa_deletion_code : update_code t zone soa_deletion ≡ NoError
soa_deletion_code = refl

soa_deletion_change : update_change t zone soa_deletion ≡ zone
soa_deletion_change = refl

-- ---- an addition of present data sets its TTL

abbrev longer : Message
longer = update t (addition (below 97) 90 (address 1) ∷ [])

longer_code : update_code t zone longer ≡ NoError
longer_code = refl

longer_change : rows_map.get (update_change t zone longer) (key (below 97).labels types.A) ≡ Some (row 90 (address 1) ∷ [])
longer_change = simp (rows_map.get-insert {X = List Row} key_total, rows_map.get-empty {X = List Row} key_cmp)
