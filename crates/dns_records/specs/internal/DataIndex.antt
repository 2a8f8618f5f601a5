-- The positions after one more is entered.
use Rattle.std.specs.Prelude.{◌≡◌, ℕ, Bool, Option, Some, None, if◌then◌else◌}
use Rattle.std.specs.BTreeMap as tree
use Rattle.std.specs.BTreeMap.{BTreeMap}
use Rattle.dns_data.specs.declared.rdata.RData.{RData}
use Rattle.dns_data.specs.rdata.{same_data}
use Rattle.dns_data.specs.rdata.Order.{data_cmp}

-- a position, or else the one of what comes last, if that matches
abbrev pub first_of : Option ℕ → Bool → ℕ → Option ℕ
first_of (Some place) matches last = Some place
first_of None matches last = if matches then Some last else None

-- data that had no position has one if it equals the data that was entered, and all else has its old position
abbrev pub HasEntered : BTreeMap RData ℕ → RData → ℕ → BTreeMap RData ℕ → Type 0
HasEntered old entered place new = (d : RData) → tree.get data_cmp new d ≡ first_of (tree.get data_cmp old d) (same_data entered d) place
