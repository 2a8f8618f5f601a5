-- The zone of a text.
use Rattle.std.specs.Prelude.{◌≡◌, [], List, ℕ, IsUtf8, IsOkAnd, Ok, Err}
use Rattle.api.specs.buffer.Arguments.{origin_in}
use Rattle.api.specs.declared.buffer.refusal.Refusal.{Refusal}
use Rattle.api.specs.declared.buffer.refusal.Refusal.TheVariants as refusal
use Rattle.dns_zone.specs.Load.{ReadsZone}
use Rattle.dns_zone.specs.Rows.{ZoneContent}
use Rattle.dns_zone.specs.declared.zone.ZoneFault.{ZoneFault}

-- the zone that a text defines under an origin, or under none if the text of the origin is empty
abbrev pub IsZoneOf : List ℕ → List ℕ → ZoneContent → Type 0
IsZoneOf origin text zone = IsUtf8 text × IsOkAnd (origin_in origin) (λ apex. ReadsZone [] apex text (Ok zone))

-- a text defines no zone under an origin
abbrev pub DefinesNone : List ℕ → List ℕ → Type 0
DefinesNone origin text =
    IsUtf8 text × IsOkAnd (origin_in origin) (λ apex. (fault : ZoneFault) × ReadsZone [] apex text (Err fault))

-- why there is no zone
abbrev pub IsRefused : List ℕ → List ℕ → Refusal → Type 0
IsRefused origin text refusal.Encoding = ¬ (IsUtf8 text)
IsRefused origin text refusal.Name = origin_in origin ≡ Err refusal.Name
IsRefused origin text refusal.Zone = DefinesNone origin text
IsRefused origin text refusal.Memory = Unit {0}
IsRefused origin text other = ⊥
