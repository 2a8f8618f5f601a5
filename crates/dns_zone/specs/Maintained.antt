-- What an update leaves of a zone whose serial number may rise by itself (RFC 2136 section 3.6).
use Rattle.std.specs.Prelude.{◌&&◌, not, if◌then◌else◌, false, Bool}
use Rattle.std.specs.List.{AllByRecursion}
use Rattle.dns_differences.specs.Difference.{IsDifference}
use Rattle.dns_differences.specs.declared.difference.Difference.{Difference}
use Rattle.dns_messages.specs.Sound.{IsSoundIn}
use Rattle.dns_messages.specs.declared.message.Message.{Message}
use Rattle.dns_updates.specs.Code.{update_code}
use Rattle.dns_zone.specs.Changed.{has_changed, has_changed_at}
use Rattle.dns_zone.specs.Rising.{raised, start_key}
use Rattle.dns_zone.specs.Rows.{Rows, ZoneContent}
use Rattle.dns_zone.specs.Serving.{zone_by_code}
use Rattle.dns_zone.specs.declared.zone.serials.Serials.{Serials}
use Rattle.dns_zone.specs.declared.zone.serials.Serials.TheVariants.{Kept, Rising}

-- the zone after an update, whose serial number is as the update sets it
abbrev pub zone_with : ZoneContent → Message → ZoneContent
zone_with zone m = zone_by_code zone m (update_code zone.origin zone.rows m)

-- whether the serial number is to rise by itself: records have changed, and not the SOA record
abbrev pub is_due : ZoneContent → ZoneContent → Bool
is_due old new = has_changed old.rows new.rows && not (has_changed_at old.rows new.rows (start_key old))

-- a zone after a change, with the next serial number if that is due
abbrev pub risen : ZoneContent → ZoneContent → ZoneContent
risen old new = if is_due old new then raised old new else new

-- the zone after an update, by whether its serial number rises by itself
abbrev pub maintained : Serials → ZoneContent → Message → ZoneContent
maintained Kept zone m = zone_with zone m
maintained Rising zone m = risen zone (zone_with zone m)

-- the difference between two versions, whose records can be encoded in a message and decoded again
pub record IsRecordable (old new : Rows) (d : Difference) : Type 0 where
  pub difference : IsDifference old new d
  pub deleted_sound : AllByRecursion (IsSoundIn false) d.deleted.items
  pub added_sound : AllByRecursion (IsSoundIn false) d.added.items
