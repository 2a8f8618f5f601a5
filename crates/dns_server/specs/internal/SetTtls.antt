-- How the TTLs of the last additions are found.
use Rattle.std.specs.Prelude.{◌≡◌, Bool, if◌then◌else◌, unwrap_or, List, ℕ, Option}
use Rattle.std.specs.Map.{lookup}
use Rattle.std.specs.Ordering.{eq_by_cmp}
use Rattle.dns_records.specs.Record.{Record}
use Rattle.dns_records.specs.Rows.{type_of_record}
use Rattle.dns_updates.specs.Keys.{Place, owner_code, place_cmp, type_code}
use Rattle.dns_server.specs.SetTtls.{is_addition, last_ttl}
use Rattle.dns_server.specs.declared.server.set_ttls.SetTtls.{SetTtls}

-- whether two places are the same
abbrev pub is_place : Place → Place → Bool
is_place = eq_by_cmp place_cmp

-- the place of the set of a record
abbrev pub set_place : Record → Place
set_place r = (owner_code r.name.labels, type_code (type_of_record r))

-- the TTL that is kept for a place
abbrev pub ttl_at : SetTtls → Place → Option ℕ
ttl_at ttls p = lookup (λ k. is_place p k) ttls.map.entries

-- the TTLs of the last additions are kept
abbrev pub AreLastTtls : List Record → SetTtls → Type 0
AreLastTtls updates ttls = (r : Record) → ttl_at ttls (set_place r) ≡ last_ttl updates r

-- the TTL of an update, by the TTLs that are kept
abbrev pub kept_ttl : SetTtls → Record → ℕ
kept_ttl ttls r = if is_addition r then unwrap_or (ttl_at ttls (set_place r)) r.ttl else r.ttl

-- an update with this TTL
abbrev pub with_kept_ttl : SetTtls → Record → Record
with_kept_ttl ttls r = record r { ttl = kept_ttl ttls r }
