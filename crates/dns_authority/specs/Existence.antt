-- Names that do not exist (RFC 4592 sections 2.2.2 and 3.3).
use Rattle.std.specs.Prelude.{◌≡◌, ◌≤◌, suc, List, ℕ, Some, None}
use Rattle.dns_names.specs.Name.{DomainName}
use Rattle.dns_records.specs.Record.{Record}
use Rattle.dns_zone.specs.Rows.{ZoneContent}
use Rattle.dns_authority.specs.steps.Barrier.{barrier}
use Rattle.dns_authority.specs.steps.Wildcard.{answering_name}
use Rattle.dns_authority.specs.declared.asked.Asked.{Asked}
use Rattle.dns_authority.specs.declared.step.Step.TheVariants.{Links}
use Rattle.dns_authority.specs.Step.{step, zone_for}

-- A name does not exist in the zone of its question: no zone cut and no DNAME record is on the way to it, it has no row at or below
-- it, and its source of synthesis has none either.
pub record DoesNotExist (zones : List ZoneContent) (asked : Asked) (owner : DomainName) : Type 0 where
  pub zone : ZoneContent
  pub zone_is : zone_for zones asked.record_type owner ≡ Some zone
  pub no_barrier : barrier zone asked.record_type owner ≡ None
  pub no_name : answering_name zone.rows owner ≡ None

-- a name leads to another over so many aliases that are followed
pub data Leads (zones : List ZoneContent) (asked : Asked) : ℕ → DomainName → DomainName → Type 0 where
  here : (owner : DomainName) → Leads zones asked 0 owner owner
  along : (count : ℕ) (owner next end : DomainName) (records : List Record) → step zones asked owner ≡ Links records (Some next)
      → Leads zones asked count next end → Leads zones asked (suc count) owner end

-- A name, or the last of the aliases from it, does not exist.
pub record LeadsNowhere (most : ℕ) (zones : List ZoneContent) (asked : Asked) (owner : DomainName) : Type 0 where
  pub count : ℕ
  pub end : DomainName
  pub few : count ≤ most
  pub leads : Leads zones asked count owner end
  pub fails : DoesNotExist zones asked end
