-- Where the zones of a table are, by the keys of their origins.
use Rattle.std.specs.Prelude.{◌≡◌, ◌≤◌, ℕ, List, Option, length}
use Rattle.std.specs.BTreeMap as maps
use Rattle.std.specs.List.{AllByRecursion}
use Rattle.std.specs.Map.{lookup}
use Rattle.dns_updates.specs.Keys.{bytes_cmp, owner_code}
use Rattle.dns_zone.specs.Rows.{ZoneContent}
use Rattle.dns_server.specs.Zones.{place_at, AreServable}

-- the place at a key
abbrev pub place_by_key : List (List ℕ × ℕ) → List ℕ → Option ℕ
place_by_key entries bytes = lookup (maps.is_at (bytes_cmp bytes)) entries

-- entries have the places of zones by their origins, and no others
abbrev pub ArePlacesOf : List (List ℕ × ℕ) → List ZoneContent → Type 0
ArePlacesOf entries zones = (labels : List (List ℕ)) → place_by_key entries (owner_code labels) ≡ place_at zones labels

-- no origin has more labels
abbrev pub HaveLabels : ℕ → List ZoneContent → Type 0
HaveLabels most zones = AllByRecursion (λ zone. length zone.origin.labels ≤ most) zones

-- the zones of a table can be served, and it has their places and the most labels of their origins
pub record IsTable (zones : List ZoneContent) (entries : List (List ℕ × ℕ)) (most : ℕ) : Type 0 where
  pub servable : AreServable zones
  pub places : ArePlacesOf entries zones
  pub labels : HaveLabels most zones
