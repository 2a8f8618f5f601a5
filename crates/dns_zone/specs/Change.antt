-- The difference that a change makes in a zone.
use Rattle.std.specs.Prelude.{◌≡◌, false, List, [], ◌∷◌}
use Rattle.std.specs.List.{AllByRecursion}
use Rattle.std.specs.Ordering.{is_gt}
use Rattle.dns_differences.specs.Difference.{IsDifference}
use Rattle.dns_differences.specs.declared.difference.Difference.{Difference}
use Rattle.dns_messages.specs.Sound.{IsSoundIn}
use Rattle.dns_records.specs.Record.{Record}
use Rattle.dns_records.specs.Rows.{type_of_record}
use Rattle.dns_updates.specs.Keys.{Place, owner_code, place_cmp, type_code}
use Rattle.dns_zone.specs.Rows.{Rows}

-- the place of a record: that of its set
abbrev pub record_place : Record → Place
record_place r = (owner_code r.name.labels, type_code (type_of_record r))

-- records by their owners in canonical order (RFC 4034 section 6.1), and then by their types, of which SOA comes first
abbrev pub AreByPlace : List Record → Type 0
AreByPlace [] = Unit {0}
AreByPlace (r ∷ rs) = AllByRecursion (λ s. is_gt (place_cmp (record_place r) (record_place s)) ≡ false) rs × AreByPlace rs

-- The records that a zone has lost and those that it has gained, and no others, both in order. All can be encoded in a message and
-- decoded again.
pub record IsChange (old new : Rows) (d : Difference) : Type 0 where
  pub difference : IsDifference old new d
  pub deleted_sound : AllByRecursion (IsSoundIn false) d.deleted.items
  pub added_sound : AllByRecursion (IsSoundIn false) d.added.items
  pub deleted_by_place : AreByPlace d.deleted.items
  pub added_by_place : AreByPlace d.added.items
