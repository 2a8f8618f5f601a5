-- The start of the set at a place.
use Rattle.std.proofs.Common.{◌≡◌, ◌≤◌, ◌-◌, zero, suc, Bool, true, false, if◌then◌else◌, List, ℕ, [], ◌∷◌, cond, length, refl, ap, ◌∙◌, arith}
use Rattle.std.proofs.Common.{ltb, take, length-take, None}
use Rattle.dns_records.specs.Record.{Record}
use Rattle.dns_wire.specs.Encodable.{Piece, Position, after, reach}
use Rattle.dns_wire.specs.Items.{fitting_prefix}
use Rattle.dns_messages.specs.declared.message.Message.{Message}
use Rattle.dns_messages.specs.Cut.{authorities_end, record_item}
use Rattle.dns_authority.specs.replies.Sending.{fitting_count}
use Rattle.dns_authority.specs.replies.WholeSets.{continues_set, set_start}

-- where a set goes on, its start is that of the place before
pub start_before : (records : List Record) (place : ℕ) → continues_set records place ≡ true → set_start records place ≡ set_start records (place - 1)
unfolding set_start
start_before records zero goes_on = absurd cc
start_before records (suc n) goes_on =
    let before : n ≡ suc n - 1 = omega arith in
    ap (λ (b : Bool). if b then set_start records n else suc n) goes_on ∙ ap (λ (k : ℕ). set_start records k) before

-- where none goes on, it is the place
pub start_here : (records : List Record) (place : ℕ) → continues_set records place ≡ false → set_start records place ≡ place
unfolding set_start
start_here records zero ends = refl
start_here records (suc n) ends = ap (λ (b : Bool). if b then set_start records n else suc n) ends

-- no more items fit than there are
fitting_few : {X : Type 0} (pieces : X → Position → List Piece) (limit : ℕ) (s : Position) (xs : List X)
    → length (fitting_prefix pieces limit s xs) ≤ length xs
fitting_few pieces limit s [] = omega arith
fitting_few pieces limit s (x ∷ xs) = by (ltb limit (reach s (pieces x s))) (fitting_few pieces limit (after s (pieces x s)) xs) where
  by : (b : Bool) → length (fitting_prefix pieces limit (after s (pieces x s)) xs) ≤ length xs
      → length (cond b [] (x ∷ fitting_prefix pieces limit (after s (pieces x s)) xs)) ≤ suc (length xs)
  by true few = omega arith
  by false few = omega (arith, few)

-- as many additional records as fit are there
pub fitting_there : (limit end : ℕ) (m : Message) → end ≤ fitting_count limit m → end ≡ length (take end m.additionals)
fitting_there limit end m few =
    let most : fitting_count limit m ≤ length m.additionals =
    fitting_few record_item (limit - 11) (authorities_end (limit - 11) (record m { edns = None })) m.additionals in
    omega (arith, length-take end m.additionals)
