-- The zones of a server, and which of them is closest to a name (RFC 1034 section 4.3.2).
use Rattle.std.specs.Prelude.{◌≡◌, false, Bool, List, [], ◌∷◌, ℕ, Option, position}
use Rattle.std.specs.List.{list_any}
use Rattle.std.specs.Option.{option_or}
use Rattle.dns_names.specs.Compare.{same_labels}
use Rattle.dns_zone.specs.Rows.{ZoneContent, IsZone}

-- whether the origin of a zone has these labels, ignoring ASCII case
abbrev pub is_at : List (List ℕ) → ZoneContent → Bool
is_at labels zone = same_labels zone.origin.labels labels

-- whether some zone has an origin with these labels, ignoring ASCII case
abbrev pub has_origin : List ZoneContent → List (List ℕ) → Bool
has_origin zones labels = list_any (is_at labels) zones

-- Each zone is well formed, and no two have the same origin.
abbrev pub AreServable : List ZoneContent → Type 0
AreServable [] = Unit {0}
AreServable (zone ∷ zones) = IsZone zone × ((has_origin zones zone.origin.labels ≡ false) × AreServable zones)

-- the place of the zone whose origin has these labels
abbrev pub place_at : List ZoneContent → List (List ℕ) → Option ℕ
place_at zones labels = position (is_at labels) zones

-- The place of the zone with the closest origin at or above a name (RFC 1034 section 4.3.2 step 2): that of the zone whose origin
-- is the name, or else of the one closest to the name above it.
abbrev pub closest : List ZoneContent → List (List ℕ) → Option ℕ
closest zones [] = place_at zones []
closest zones (label ∷ labels) = option_or (place_at zones (label ∷ labels)) (closest zones labels)
