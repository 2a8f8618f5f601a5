-- How a lookup begins under a number.
use Rattle.std.proofs.Common.{◌≡◌, ◌∙◌, ◌==◌, Bool, cond, List, ℕ, suc, Option, Some, Ok, ap, refl, arith}
use Rattle.std.proofs.lemmas.Bool.Decides.{nat_tests}
use Rattle.std.specs.BTreeMap.{BTreeMap, UpdatesBy, get, is_at}
use Rattle.std.specs.Ordering.{nat_cmp}
use Rattle.std.specs.Prelude.{if◌then◌else◌}
use Rattle.api_resolver.specs.declared.lookup.OpenLookup.{OpenLookup}
use Rattle.api.specs.lookups.Table.{Begins, BeginsLookup, IsUnbegun, IsUnnamed}
use Rattle.api.specs.lookups.Table as table
use Rattle.api.specs.declared.lookups.refusal.LookupRefusal.{LookupRefusal}
use Rattle.api.specs.declared.lookups.refusal.LookupRefusal.TheVariants as refusal
use Rattle.api.specs.declared.lookups.table.LookupTable.{LookupTable}

-- the order of numbers finds the number alone
at_number : (number k : ℕ) → is_at (nat_cmp number) k ≡ (k == number)
at_number number k = grind (arith, nat_tests)

-- what the map has at each number after one is updated
has_at : (number : ℕ) (found : Option OpenLookup) (old new : BTreeMap ℕ OpenLookup) → UpdatesBy nat_cmp (nat_cmp number) old new found
    → (k : ℕ) → get nat_cmp new k ≡ (if k == number then found else get nat_cmp old k)
has_at number found old new updates k =
    updates.0 k ∙ ap (λ (b : Bool). cond b found (get nat_cmp old k)) (at_number number k)

-- the reasons why a text is no name are reasons why a lookup is not begun
pub unbegun : (old : LookupTable) (text : List ℕ) (reason : LookupRefusal) → IsUnnamed text reason → IsUnbegun old text reason
unbegun old text refusal.NoNumber unnamed = absurd unnamed
unbegun old text refusal.Memory unnamed = unnamed
unbegun old text refusal.Name unnamed = unnamed
unbegun old text other unnamed = unnamed

-- the lookup has its number
pub begins_there : (old new : LookupTable) (text : List ℕ) (kind : ℕ) (ids : List ℕ) (clock : ℕ) (lookup : OpenLookup) → BeginsLookup old text kind ids clock lookup new
    → UpdatesBy nat_cmp (nat_cmp old.next) old.lookups new.lookups (Some lookup) → new.next ≡ suc old.next → Begins old text kind ids clock (Ok old.next) new
begins_there old new text kind ids clock lookup begins updates next =
    table.lookup_begins lookup (Ok old.next) new refl begins (has_at old.next (Some lookup) old.lookups new.lookups updates) next
