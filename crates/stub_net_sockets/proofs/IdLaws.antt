-- Ids of bytes that are drawn anew.
use Rattle.std.proofs.Common.{◌≡◌, ◌<◌, ◌+◌, ℕ, List, Option, Some, None, IfSome, IsSome, subst, inr}
use Rattle.stub_net_sockets.specs.RandomIds.{Draws, Takes, id_at}
use Rattle.stub_net_sockets.specs.declared.random_ids.RandomIds.{RandomIds}

-- less than two bytes were left; others are drawn, and two of these are taken
pub draws_anew : {E : Type 0} (gives : E → List ℕ → E → Type 0) (old same filled new : RandomIds E) (result : Option ℕ) → 254 < old.used
    → same ≡ old → gives same.entropy filled.bytes filled.entropy → filled.used ≡ 0 → IfSome result (λ id. Takes filled id new)
    → IsSome result → Draws gives old result new
draws_anew gives old same filled new (Some id) few same_is given used takes some =
    inr (record {
      none_left = few;
      given = rw (takes.bytes_are, takes.entropy_is, ← same_is) given;
      id_is = subst (λ (n : ℕ). id ≡ id_at n new.bytes) used takes.id_is;
      used_is = subst (λ (n : ℕ). new.used ≡ n + 2) used takes.used_is;
    })
draws_anew gives old same filled new None few same_is given used takes some = cc some
