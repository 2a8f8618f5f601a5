-- The sets of a name that are sought among those that come after one another.
use Rattle.std.specs.Prelude.{◌≡◌, ◌==◌, true, false, if◌then◌else◌, take, length, Bool, ℕ, List, [], ◌∷◌, Option, Some, None, option_copied}
use Rattle.std.specs.BTreeMap.{is_at}
use Rattle.std.specs.Cmp.Lexicographic.{pointwise}
use Rattle.std.specs.Map.{lookup}
use Rattle.std.specs.Option.{option_or}
use Rattle.dns_wire.specs.declared.codes.record_type.RecordType.TheVariants as types
use Rattle.dns_records.specs.RecordSet.{RecordSetValue}
use Rattle.dns_records.specs.declared.row.Row.{Row}
use Rattle.dns_updates.specs.Keys.{Place, place_cmp, type_code}
use Rattle.dns_zone.specs.declared.sets.node.NodeSets.{NodeSets}
use Rattle.dns_zone.specs.Rows.{rows_of}

-- the set at a place of sets with their places
abbrev pub at_place : Place → List (Place × RecordSetValue) → Option RecordSetValue
at_place place entries = lookup (is_at (place_cmp place)) entries

-- whether bytes begin with those of an owner
abbrev pub begins_with : List ℕ → List ℕ → Bool
begins_with owner bytes = pointwise (λ a b. a == b) owner (take (length owner) bytes)

-- whether the owner of the first set is at or below another
abbrev pub is_first_below : List ℕ → List (Place × RecordSetValue) → Bool
is_first_below owner [] = false
is_first_below owner (e ∷ entries) = begins_with owner e.0.0

-- the set that was found, or else another of the number that is wanted
abbrev pub sought : Option RecordSetValue → ℕ → ℕ → RecordSetValue → Option RecordSetValue
sought found wanted number s = option_or found (if wanted == number then Some s else None)

-- what is known of the sets of a name, after another of them whose type has a number
pub record AreSoughtWith (before : NodeSets) (number : ℕ) (s : RecordSetValue) (after : NodeSets) : Type 0 where
  pub code : after.code ≡ before.code
  pub asked : option_copied after.asked ≡ sought (option_copied before.asked) before.code number s
  pub aliases : option_copied after.aliases ≡ sought (option_copied before.aliases) (type_code types.CNAME) number s
  pub servers : option_copied after.servers ≡ sought (option_copied before.servers) (type_code types.NS) number s
  pub redirections : option_copied after.redirections ≡ sought (option_copied before.redirections) (type_code types.DNAME) number s
  pub exists : after.exists ≡ true

-- the rows of a set, if there is one
abbrev pub set_rows : Option RecordSetValue → List Row
set_rows None = []
set_rows (Some s) = rows_of s.records
