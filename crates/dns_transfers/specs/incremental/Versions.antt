-- The versions of a zone, and which of their differences are known (RFC 1995 section 5).
use Rattle.std.specs.Prelude.{◌≡◌, ◌++◌, map, if◌then◌else◌, List, [], ◌∷◌, ℕ}
use Rattle.std.specs.List.{Contains}
use Rattle.dns_records.specs.Rows.{Rows}
use Rattle.dns_differences.specs.Difference.{is_empty, AreAlike, HasSerial, IsDifference}
use Rattle.dns_differences.specs.declared.difference.Difference.{Difference}

-- a version of a zone, and the difference from it to the next one
pub record Version : Type 0 where
  pub rows : Rows
  pub difference : Difference

-- the rows of the first of some versions, or the current ones if there is none
abbrev pub first_rows : List Version → Rows → Rows
first_rows [] now = now
first_rows (v ∷ versions) now = v.rows

-- Each version led to the next one by its difference, and the last to the current one.
abbrev pub AreVersions : List Version → Rows → Type 0
AreVersions [] now = Unit {0}
AreVersions (v ∷ versions) now = IsDifference v.rows (first_rows versions now) v.difference × AreVersions versions now

-- the versions before a change, with the current one unless nothing has changed
abbrev pub with_version : List Version → Rows → Difference → List Version
with_version versions current d =
    if is_empty d then versions else versions ++ record { rows = current; difference = d } ∷ []

-- the differences of versions
abbrev pub differences_of : List Version → List Difference
differences_of versions = map (λ v. v.difference) versions

-- The known differences are those of the last versions.
pub record AreKnown (versions : List Version) (ds : List Difference) : Type 0 where
  pub older : List Version
  pub kept : List Version
  pub split : versions ≡ older ++ kept
  pub differences : ds ≡ differences_of kept

-- Serial numbers tell versions apart: two that have one in common have the same records.
abbrev pub AreToldApart : List Version → Type 0
AreToldApart versions =
    (a b : Version) (serial : ℕ) → Contains versions a → Contains versions b → HasSerial a.rows serial → HasSerial b.rows serial
    → AreAlike a.rows b.rows
