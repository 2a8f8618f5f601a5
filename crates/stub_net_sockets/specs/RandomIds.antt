-- Ids from random bytes.
use Rattle.std.specs.Prelude.{◌≡◌, ◌<◌, ◌+◌, ◌*◌, ◌⊎◌, List, ℕ, Option, Some, None, slice_index}
use Rattle.stub_net_sockets.specs.declared.random_ids.RandomIds.{RandomIds}

-- the id of two bytes, from a place on
abbrev pub id_at : ℕ → List ℕ → ℕ
id_at place bytes = 256 * slice_index bytes place + slice_index bytes (place + 1)

-- The next two bytes are taken.
pub record Takes {E : Type 0} (old : RandomIds E) (id : ℕ) (new : RandomIds E) : Type 0 where
  pub id_is : id ≡ id_at old.used new.bytes
  pub bytes_are : new.bytes ≡ old.bytes
  pub used_is : new.used ≡ old.used + 2
  pub entropy_is : new.entropy ≡ old.entropy

-- Fewer than two bytes were left, so others are drawn, as `gives` says, and the first two of these are taken.
pub record TakesNew {E : Type 0} (gives : E → List ℕ → E → Type 0) (old : RandomIds E) (id : ℕ) (new : RandomIds E) : Type 0 where
  pub none_left : 254 < old.used
  pub given : gives old.entropy new.bytes new.entropy
  pub id_is : id ≡ id_at 0 new.bytes
  pub used_is : new.used ≡ 2

-- An id is drawn, of bytes of which each is used once (RFC 5452 section 9.2). None is drawn only where fewer than two bytes were left,
-- and no more are left afterwards.
abbrev pub Draws : {E : Type 0} → (E → List ℕ → E → Type 0) → RandomIds E → Option ℕ → RandomIds E → Type 0
Draws gives old (Some id) new = Takes old id new ⊎ TakesNew gives old id new
Draws gives old None new = (254 < old.used) × (new.used ≡ old.used)
