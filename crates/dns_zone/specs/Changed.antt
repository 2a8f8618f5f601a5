-- Whether the records of a zone have changed.
use Rattle.std.specs.Prelude.{◌&&◌, ◌++◌, not, unwrap_or, Bool, List, []}
use Rattle.std.specs.FinMap as rows_map
use Rattle.std.specs.List.{list_all, list_any}
use Rattle.dns_differences.specs.Difference.{has_row}
use Rattle.dns_records.specs.declared.row.Row.{Row}
use Rattle.dns_zone.specs.Rows.{Key, Rows}

-- whether two sets have the same records, in any order: equal TTLs and equal data
abbrev pub are_alike : List Row → List Row → Bool
are_alike a b = list_all (has_row a) b && list_all (has_row b) a

-- the rows at a key, or none
abbrev pub rows_by_key : Rows → Key → List Row
rows_by_key rows k = unwrap_or (rows_map.get rows k) []

-- whether the records at a key are others
abbrev pub has_changed_at : Rows → Rows → Key → Bool
has_changed_at old new k = not (are_alike (rows_by_key old k) (rows_by_key new k))

-- whether some records are others
abbrev pub has_changed : Rows → Rows → Bool
has_changed old new = list_any (has_changed_at old new) (rows_map.keys old ++ rows_map.keys new)
