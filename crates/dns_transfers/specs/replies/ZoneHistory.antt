-- The differences that are known of zones (RFC 1995 section 5).
use Rattle.std.specs.Prelude.{find, Bool, List, [], Option, Some, None}
use Rattle.dns_differences.specs.declared.difference.Difference.{Difference}
use Rattle.dns_names.specs.Compare.{same_labels}
use Rattle.dns_names.specs.Name.{DomainName}
use Rattle.dns_transfers.specs.declared.replies.zone_history.ZoneHistory.{ZoneHistory}

-- whether a history is that of the zone with this origin, ignoring ASCII case
abbrev pub is_history_of : DomainName → ZoneHistory → Bool
is_history_of origin h = same_labels h.origin.labels origin.labels

-- the history of the zone with this origin
abbrev pub history_of : List ZoneHistory → DomainName → Option ZoneHistory
history_of histories origin = find (is_history_of origin) histories

-- its differences, or none if there is no history
abbrev pub differences_in : Option ZoneHistory → List Difference
differences_in None = []
differences_in (Some h) = h.history.differences.items

-- the differences that are known of the zone with this origin
abbrev pub known_differences : List ZoneHistory → DomainName → List Difference
known_differences histories origin = differences_in (history_of histories origin)
