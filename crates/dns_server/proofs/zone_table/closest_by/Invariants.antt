use Rattle.std.proofs.Common.{◌≡◌, ◌++◌, List}
use Rattle.dns_updates.specs.Keys.{owner_code}
use Rattle.dns_zone.specs.Rows.{ZoneContent}
use Rattle.dns_server.specs.internal.ZoneTable.{ArePlacesOf}
use Rattle.dns_server.proofs.ZoneTableLaws.{IsSearch}
use Rattle.dns_server.proofs.zone_table.closest_by.Given as goal

abbrev pub invariant-loop-taken : goal.invariant-loop-taken
invariant-loop-taken l =
    (owner_code l.name.labels ≡ l.key ++ owner_code l.labels)
    × ((zones : List ZoneContent) → ArePlacesOf l.places.entries zones → IsSearch zones l.name.labels l.labels l._taken l.key l.found)
