-- Walks over a small zone: what names of each kind come to.
use Rattle.std.proofs.Common.{◌≡◌, ℕ, true, List, [], ◌∷◌, refl}
use Rattle.std.specs.FinMap as rows_map
use Rattle.dns_wire.specs.declared.codes.record_type.RecordType.TheVariants as types
use Rattle.dns_names.specs.Name.{DomainName}
use Rattle.dns_data.specs.declared.rdata.RData.{RData}
use Rattle.dns_data.specs.declared.rdata.RData.TheVariants as of
use Rattle.dns_records.specs.Rows.{key, key_cmp, rows_at}
use Rattle.dns_records.specs.declared.row.Row.{Row}
use Rattle.dns_messages.specs.declared.response_code.ResponseCode.TheVariants.{Refused}
use Rattle.dns_zone.specs.Answer.{negative, record_of}
use Rattle.dns_zone.specs.Rows.{ZoneContent}
use Rattle.dns_zone.proofs.RowLaws.{key_total}
use Rattle.std.specs.Prelude.{codes}
use Rattle.stub_client.specs.Conclusions.{Finds, Lacks, Refuses, values}
use Rattle.stub_client.specs.SpecialNames.{loopback_record}
use Rattle.stub_laws.specs.walk.Walk.{Walk}
use Rattle.stub_laws.specs.walk.Walk.Walk.{at_alias, at_foreign_name, at_limit, at_local_host, at_nothing, at_rows}

-- ---- the zone t.

abbrev full : List (List ℕ) → DomainName
full labels = record { is_fqdn = true; labels = labels }

abbrev below : List ℕ → DomainName
below label = full (label ∷ codes "t" ∷ [])

abbrev address : ℕ → RData
address last = of.A (record { 0 = record { octets = 10 ∷ 0 ∷ 0 ∷ last ∷ [] } })

abbrev alias_of : DomainName → RData
alias_of target = of.CNAME (record { 0 = target })

abbrev row : RData → Row
row d = record { ttl = 60; rdata = d }

abbrev elsewhere : DomainName
elsewhere = full (codes "x" ∷ codes "u" ∷ [])

-- a.t. has an address, w.t. is an alias of a.t., and o.t. is one of a name outside the zone
abbrev zone : ZoneContent
zone = record {
  origin = full (codes "t" ∷ []);
  rows = rows_map.from_entries (
      (key (below (codes "a")).labels types.A, row (address 1) ∷ [])
      ∷ (key (below (codes "w")).labels types.CNAME, row (alias_of (below (codes "A"))) ∷ [])
      ∷ (key (below (codes "o")).labels types.CNAME, row (alias_of elsewhere) ∷ [])
      ∷ []);
}

address_rows : rows_at zone.rows (below (codes "A")).labels types.A ≡ row (address 1) ∷ []
address_rows = simp (rows_map.get-insert {X = List Row} key_total)

-- ---- walks

-- an address, with the spelling of the owner dropped
found_there : (budget : ℕ) → Walk zone types.A budget (below (codes "A")) (Finds (values (record_of (below (codes "a")) (row (address 1)) ∷ [])))
found_there budget = at_rows budget (below (codes "A")) (row (address 1)) [] (record { ordinary = refl; inside = refl }) address_rows

-- the alias of a name in the zone
pub found_by_alias : Walk zone types.A 7 (below (codes "w")) (Finds (values (record_of (below (codes "a")) (row (address 1)) ∷ [])))
found_by_alias =
    at_alias 6 (below (codes "w")) (row (alias_of (below (codes "A")))) [] (record { 0 = below (codes "A") })
    (Finds (values (record_of (below (codes "a")) (row (address 1)) ∷ [])))
    (record {
      is_there = record { ordinary = refl; inside = refl };
      none = simp (rows_map.get-insert {X = List Row} key_total, rows_map.get-empty {X = List Row} key_cmp);
    })
    (simp (rows_map.get-insert {X = List Row} key_total)) refl (found_there 6)

-- the alias of a name outside the zone
pub refused_by_alias : Walk zone types.A 7 (below (codes "o")) (Refuses Refused)
refused_by_alias =
    at_alias 6 (below (codes "o")) (row (alias_of elsewhere)) [] (record { 0 = elsewhere }) (Refuses Refused)
    (record {
      is_there = record { ordinary = refl; inside = refl };
      none = simp (rows_map.get-insert {X = List Row} key_total, rows_map.get-empty {X = List Row} key_cmp);
    })
    (simp (rows_map.get-insert {X = List Row} key_total)) refl
    (at_foreign_name 6 elsewhere refl refl)

-- a name without rows
missing : Walk zone types.A 7 (below (codes "n")) (Lacks (negative zone (below (codes "n")).labels).code)
missing =
    at_nothing 7 (below (codes "n"))
    (record {
      is_there = record { ordinary = refl; inside = refl };
      none = simp (rows_map.get-insert {X = List Row} key_total, rows_map.get-empty {X = List Row} key_cmp);
    })
    (simp (rows_map.get-insert {X = List Row} key_total, rows_map.get-empty {X = List Row} key_cmp))

-- an alias without a budget
too_far : Walk zone types.A 0 (below (codes "w")) (Lacks (negative zone (below (codes "w")).labels).code)
too_far =
    at_limit (below (codes "w")) (row (alias_of (below (codes "A")))) []
    (record {
      is_there = record { ordinary = refl; inside = refl };
      none = simp (rows_map.get-insert {X = List Row} key_total, rows_map.get-empty {X = List Row} key_cmp);
    })
    (simp (rows_map.get-insert {X = List Row} key_total))

-- the local host, which no zone serves
local_host : Walk zone types.A 7 (full (codes "localhost" ∷ []))
    (Finds (values (loopback_record (full (codes "localhost" ∷ [])) (of.A (record { 0 = record { octets = 127 ∷ 0 ∷ 0 ∷ 1 ∷ [] } })) ∷ [])))
local_host = at_local_host 7 (full (codes "localhost" ∷ [])) _ refl
