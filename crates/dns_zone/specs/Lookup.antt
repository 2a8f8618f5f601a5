-- The record sets of a zone, in their order.
use Rattle.std.specs.Prelude.{◌≡◌, true, List}
use Rattle.dns_records.specs.RecordSet.{RecordSetValue}
use Rattle.dns_zone.specs.Printed.{AreZoneSets}
use Rattle.dns_zone.specs.Rows.{ZoneContent, rows_of_sets, AreSoundSets}
use Rattle.dns_zone.specs.Sets.{AreInOrder}

-- The sets of a zone: they have its rows, that of the SOA record comes first, and their owners are in canonical order (RFC 4034
-- section 6.1).
pub record AreSetsOf (zone : ZoneContent) (sets : List RecordSetValue) : Type 0 where
  pub origin_fqdn : zone.origin.is_fqdn ≡ true
  pub rows : zone.rows ≡ rows_of_sets sets
  pub sound : AreSoundSets sets
  pub kept : AreZoneSets zone.origin sets
  pub ordered : AreInOrder sets
