-- What is wrong in the text of a zone.
use Rattle.std.specs.Prelude.{◌≡◌, ◌++◌, codes, [], List, ℕ, IsUtf8, IsOkAnd, Option, Some, None, Err, unwrap_or}
use Rattle.api.specs.buffer.Arguments.{origin_in}
use Rattle.api.specs.declared.buffer.refusal.Refusal.{Refusal}
use Rattle.api.specs.declared.buffer.refusal.Refusal.TheVariants as refusal
use Rattle.dns_zone.specs.Load.{ReadsZone}
use Rattle.dns_zone.specs.Rows.{ZoneContent}
use Rattle.dns_zone.specs.declared.zone.ZoneFault.{ZoneFault}
use Rattle.dns_zone.specs.declared.zone.ZoneFault.TheVariants.{Parse}
use Rattle.dns_zone_file.specs.Error as file
use Rattle.dns_zone_file.specs.declared.types.Types.TheVariants.{Nine}
use Rattle.zone_check.specs.findings.FaultText.{fault_sentences}
use Rattle.api.specs.zones.Zones.{IsZoneOf}

-- a text has this fault under an origin
abbrev pub HasFault : List ℕ → List ℕ → ZoneFault → Type 0
HasFault origin text fault = IsUtf8 text × IsOkAnd (origin_in origin) (λ apex. ReadsZone [] apex text (Err fault))

-- the fault of a text, or none if it is that of a zone
abbrev pub IsFaultIn : List ℕ → List ℕ → Option ZoneFault → Type 0
IsFaultIn origin text (Some fault) = HasFault origin text fault
IsFaultIn origin text None = (zone : ZoneContent) × IsZoneOf origin text zone

-- the line of a fault, from 1, or 0 if it has none
abbrev pub line_of : ZoneFault → ℕ
line_of (Parse error) = unwrap_or (file.line_of error) 0
line_of other = 0

-- what is wrong, and what to write instead
abbrev pub sentence_of : ZoneFault → List ℕ
sentence_of fault = ((fault_sentences Nine fault).reason ++ codes "; ") ++ (fault_sentences Nine fault).hint

-- the line of the fault of a text, with the sentence on it, or 0 and an empty one if it is that of a zone
pub data FindsFault (origin text : List ℕ) : ℕ → List ℕ → Type 0 where
  nothing_is_wrong : (zone : ZoneContent) → IsZoneOf origin text zone → FindsFault origin text 0 []
  has_a_fault : (fault : ZoneFault) → HasFault origin text fault → FindsFault origin text (line_of fault) (sentence_of fault)

-- why a text is not read
abbrev pub IsUnread : List ℕ → List ℕ → Refusal → Type 0
IsUnread origin text refusal.Encoding = ¬ (IsUtf8 text)
IsUnread origin text refusal.Name = origin_in origin ≡ Err refusal.Name
IsUnread origin text refusal.Memory = Unit {0}
IsUnread origin text other = ⊥
