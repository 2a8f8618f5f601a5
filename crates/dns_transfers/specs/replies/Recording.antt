-- The last differences of zones, and how they go on.
use Rattle.std.specs.Prelude.{◌≡◌, IsSomeAnd, if◌then◌else◌, slice_get, length, Bool, List, [], ◌∷◌, ℕ, Option, Some, None}
use Rattle.dns_differences.specs.declared.difference.Difference.{Difference}
use Rattle.dns_differences.specs.declared.history.Limits.{Limits}
use Rattle.dns_differences.specs.History.{recorded, IsHistoryOf}
use Rattle.dns_zone.specs.Rows.{ZoneContent}
use Rattle.dns_transfers.specs.declared.replies.zone_history.ZoneHistory.{ZoneHistory}

-- ---- histories of zones

-- The differences that are known of a zone lead to its rows (RFC 1995 section 4).
pub record IsKnownOf (zone : ZoneContent) (h : ZoneHistory) : Type 0 where
  pub origin_is : h.origin ≡ zone.origin
  pub leads : IsHistoryOf zone.rows h.history.differences.items

-- Each history is of the zone at its place.
abbrev pub AreHistoriesOf : List ZoneContent → List ZoneHistory → Type 0
AreHistoriesOf zones histories =
    (place : ℕ) (h : ZoneHistory) → slice_get histories place ≡ Some h → IsSomeAnd (slice_get zones place) (λ zone. IsKnownOf zone h)

-- a history without differences of a zone
pub record IsNewOf (limits : Limits) (zone : ZoneContent) (h : ZoneHistory) : Type 0 where
  pub origin_is : h.origin ≡ zone.origin
  pub limits_are : h.history.limits ≡ limits
  pub none : h.history.differences.items ≡ []

-- histories without differences of zones, in their order
abbrev pub AreNewOf : Limits → List ZoneContent → List ZoneHistory → Type 0
AreNewOf limits [] [] = Unit {0}
AreNewOf limits [] (h ∷ histories) = ⊥
AreNewOf limits (zone ∷ zones) [] = ⊥
AreNewOf limits (zone ∷ zones) (h ∷ histories) = IsNewOf limits zone h × AreNewOf limits zones histories

-- the same, if differences are kept
abbrev pub AreNewIf : Option Limits → List ZoneContent → List ZoneHistory → Type 0
AreNewIf None zones histories = histories ≡ []
AreNewIf (Some limits) zones histories = AreNewOf limits zones histories

-- ---- one more difference of a zone

-- a history with other differences
pub record Becomes (old : ZoneHistory) (ds : List Difference) (new : ZoneHistory) : Type 0 where
  pub origin_is : new.origin ≡ old.origin
  pub limits_are : new.history.limits ≡ old.history.limits
  pub differences_are : new.history.differences.items ≡ ds

-- the differences of a zone with one more, or none if memory was refused for it
abbrev pub recorded_if : Bool → ZoneHistory → Difference → List Difference
recorded_if complete h d = if complete then recorded h.history.limits h.history.differences.items d else []

-- The histories after a change of the zone at a place: its difference is recorded, or, if memory was refused, its history begins
-- again. Those of the other zones are as they were.
pub record AreRecorded (complete : Bool) (place : ℕ) (d : Difference) (old new : List ZoneHistory) : Type 0 where
  pub count : length new ≡ length old
  pub here : (h k : ZoneHistory) → slice_get old place ≡ Some h → slice_get new place ≡ Some k → Becomes h (recorded_if complete h d) k
  pub others : (other : ℕ) → ¬ (other ≡ place) → slice_get new other ≡ slice_get old other

-- the histories of the same zones, all of which begin again
pub record AreForgotten (old new : List ZoneHistory) : Type 0 where
  pub count : length new ≡ length old
  pub each : (place : ℕ) (h k : ZoneHistory) → slice_get old place ≡ Some h → slice_get new place ≡ Some k → Becomes h [] k
