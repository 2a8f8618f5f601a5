-- How the data that prerequisites require is found by owner and type, and which of it is in an index.
use Rattle.std.specs.Prelude.{◌≡◌, Bool, true, map, unwrap_or, List, [], ℕ, Option, None, Some}
use Rattle.std.specs.Borrow.{Bor}
use Rattle.std.specs.List.{list_any}
use Rattle.std.specs.Map.{lookup}
use Rattle.std.specs.Option.{option_map}
use Rattle.std.specs.Ordering.{eq_by_cmp, is_eq}
use Rattle.dns_wire.specs.declared.codes.record_type.RecordType.{RecordType}
use Rattle.dns_data.specs.declared.rdata.RData.{RData}
use Rattle.dns_data.specs.rdata.Order.{data_cmp}
use Rattle.dns_records.specs.Record.{Record}
use Rattle.dns_records.specs.Rows.{Rows, type_of_record}
use Rattle.dns_updates.specs.Code.{has_required, is_required_with, required_data}
use Rattle.dns_updates.specs.Keys.{Place, owner_code, place_cmp, type_code}
use Rattle.dns_updates.specs.declared.code.required_data.RequiredData.{RequiredData}

-- data that is lent
abbrev pub lent : List (Bor RData) → List RData
lent = map (λ d. d.now)

-- whether an index has data
abbrev pub has_datum : List (Bor RData) → RData → Bool
has_datum keys d = list_any (λ k. is_eq (data_cmp d k.now)) keys

-- the place of the set of an owner and a type in the order
abbrev pub set_place : List (List ℕ) → RecordType → Place
set_place owner t = (owner_code owner, type_code t)

-- the place of the set of a record
abbrev pub record_place : Record → Place
record_place r = set_place r.name.labels (type_of_record r)

-- whether two places are the same
abbrev pub is_place : Place → Place → Bool
is_place = eq_by_cmp place_cmp

-- the data that is kept for a place
abbrev pub data_at : RequiredData → Place → Option (List RData)
data_at required p =
    option_map (λ ds. lent ds.items) (lookup (λ k. is_place p k) required.map.entries)

-- the same, or none
abbrev pub all_data_at : RequiredData → Place → List RData
all_data_at required p = unwrap_or (data_at required p) []

-- what is kept for a set: the data that it must have, or nothing once the zone is known to have that
abbrev pub IsLeftFor : Rows → List Record → Record → Option (List RData) → Type 0
IsLeftFor rows prerequisites r None = has_required rows prerequisites r ≡ true
IsLeftFor rows prerequisites r (Some required) = required ≡ required_data prerequisites r

-- so it is for each set that prerequisites require
abbrev pub AreLeft : Rows → List Record → RequiredData → Type 0
AreLeft rows prerequisites required = (r : Record) → list_any (is_required_with r) prerequisites ≡ true
    → IsLeftFor rows prerequisites r (data_at required (record_place r))
