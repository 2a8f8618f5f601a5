-- The positions of records by their data. Lists are as an index sees them: by the data of their records.
use Rattle.std.specs.Prelude.{◌≡◌, List, ℕ, Option, position}
use Rattle.std.specs.BTreeMap as tree
use Rattle.std.specs.BTreeMap.{BTreeMap}
use Rattle.dns_data.specs.declared.rdata.RData.{RData}
use Rattle.dns_data.specs.rdata.{same_data}
use Rattle.dns_data.specs.rdata.Order.{data_cmp}
use Rattle.dns_records.specs.Record.{Record}
use Rattle.dns_records.specs.declared.data_index.DataIndex.{DataIndex}

-- the position of the first record with equal data
abbrev pub position_of : List Record → RData → Option ℕ
position_of records d = position (λ r. same_data r.rdata d) records

-- the positions of data are those of the first records with equal data
abbrev pub HasPositionsOf : BTreeMap RData ℕ → List Record → Type 0
HasPositionsOf positions records = (d : RData) → tree.get data_cmp positions d ≡ position_of records d

-- An index of records has their positions as soon as 16 records have been added to them since it was created or cleared.
pub record IsIndexOf (index : DataIndex) (records : List Record) : Type 0 where
  pub has_positions : index.additions ≡ 16 → HasPositionsOf index.positions records
