-- Items of a section, as far as they were passed.
use Rattle.std.proofs.Common.{◌≡◌, ℕ, ◌+◌, List, [], ◌∷◌, ◌++◌, length, refl, arith, length-append}
use Rattle.dns_wire.specs.Decodable.{Follow}
use Rattle.dns_messages.proofs.FollowLaws.{follow_push}

-- so many items follow one another from a place up to an index
pub record PassedItems {X : Type 0} (R : ℕ → X → ℕ → Type 0) (place count index : ℕ) : Type 0 where
  pub items : List X
  pub follow : Follow R place items index
  pub count_is : length items ≡ count

pub none_passed : {X : Type 0} (R : ℕ → X → ℕ → Type 0) (place : ℕ) → PassedItems R place 0 place
none_passed R place = record { items = []; follow = refl; count_is = refl }

pub one_more : {X : Type 0} (R : ℕ → X → ℕ → Type 0) (place count index end : ℕ) (x : X) → PassedItems R place count index → R index x end → PassedItems R place (count + 1) end
one_more R place count index end x p r = record {
  items = p.items ++ x ∷ [];
  follow = follow_push R place p.items x index end p.follow r;
  count_is = omega (arith, length-append p.items (x ∷ []), p.count_is);
}
