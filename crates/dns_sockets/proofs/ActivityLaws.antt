-- When a connection was last active: when bytes were read or written.
use Rattle.std.proofs.Common.{◌≡◌, ◌∙◌, ◌+◌, ◌<◌, ◌⊎◌, ◌∷◌, ◌++◌, [], ℕ, zero, suc, List, add_assoc, ap, arith, inl, inr, length, map, refl, sym, zero-add}
use Rattle.std.proofs.lemmas.List.{length-take}
use Rattle.dns_sockets.specs.Events.{Performs}
use Rattle.dns_sockets.specs.Handler.{HandlerEvent}
use Rattle.dns_sockets.specs.Trace.{Act, At, Traces, moved_in, moved_of}
use Rattle.dns_sockets.specs.World.{WorldEvent, IsWithin, moved, read_event, write_event}
use Rattle.dns_sockets.specs.declared.world.Progress.{Progress}
use Rattle.dns_sockets.specs.declared.world.Progress.TheVariants as progresses
use Rattle.std.proofs.Common.{Option, None, Some, subst}
use Rattle.std.specs.Prelude.{slice_get, slice_set}
use Rattle.dns_sockets.specs.Rotation.{IsAsActive}
use Rattle.dns_sockets.specs.declared.stream.Stream.{Stream}
use Rattle.dns_sockets.proofs.ConnectionLaws.{set_here}
use Rattle.dns_sockets.proofs.TraceLaws.{leads_at, leads_both}

-- how many bytes are moved in acts, and then in others
moved_both : (xs ys : List Act) → moved_in (xs ++ ys) ≡ moved_in xs + moved_in ys
moved_both [] ys = sym (zero-add (moved_in ys))
moved_both (x ∷ xs) ys = ap (λ (n : ℕ). moved_of x + n) (moved_both xs ys) ∙ sym (add_assoc (moved_of x) (moved_in xs) (moved_in ys))

-- a write moves bytes, or none
pub write_active : (index : ℕ) (p : Progress) (bytes : List ℕ) → IsWithin p (length bytes) → (moved p ≡ 0) ⊎ (0 < moved_in (At (write_event index p bytes) ∷ []))
write_active index (progresses.Bytes zero) bytes within = inl refl
write_active index (progresses.Bytes (suc n)) bytes within = let len = length-take (suc n) bytes in inr (omega (arith, len, within))
write_active index progresses.Interrupted bytes within = inl refl
write_active index progresses.Nothing bytes within = inl refl
write_active index progresses.Failed bytes within = inl refl

-- the same of a read
pub read_active : (index : ℕ) (p : Progress) (buffer : List ℕ) → IsWithin p (length buffer) → (moved p ≡ 0) ⊎ (0 < moved_in (At (read_event index p buffer) ∷ []))
read_active index (progresses.Bytes zero) buffer within = inl refl
read_active index (progresses.Bytes (suc n)) buffer within = let len = length-take (suc n) buffer in inr (omega (arith, len, within))
read_active index progresses.Interrupted buffer within = inl refl
read_active index progresses.Nothing buffer within = inl refl
read_active index progresses.Failed buffer within = inl refl

-- after one event, a connection was last active as before, unless bytes were moved
pub one_active : {S : Type 0} (performs : S → WorldEvent → S → Type 0) (a b : ℕ) (w w1 : S) (e : WorldEvent) (m : ℕ) → performs w e w1 → (m ≡ 0 → b ≡ a) → (m ≡ 0) ⊎ (0 < moved_in (At e ∷ []))
    → (b ≡ a) ⊎ Performs performs w w1 (λ es. 0 < moved_in (map At es))
one_active performs a b w w1 e m step same (inl none) = inl (same none)
one_active performs a b w w1 e m step same (inr some) = inr (record { events = e ∷ []; led = (w1, (step, refl)); holds = some })

-- ---- a place

pub as_same : (slot : Option (Option Stream)) → IsAsActive slot slot
as_same None = tt
as_same (Some None) = tt
as_same (Some (Some s)) = refl

pub as_none : (slot : Option (Option Stream)) → IsAsActive slot (Some None)
as_none None = tt
as_none (Some None) = tt
as_none (Some (Some s)) = tt

-- the connection at a place has gone on
pub as_gone : (slots : List (Option Stream)) (i : ℕ) (s after : Stream) (Q : Type 0) → slice_get slots i ≡ Some (Some s) → i < length slots → (after.last_activity ≡ s.last_activity) ⊎ Q
    → IsAsActive (slice_get slots i) (slice_get (slice_set slots i (Some after)) i) ⊎ Q
as_gone slots i s after Q found within (inl same) =
    inl (subst (λ (o : Option (Option Stream)). IsAsActive o (slice_get (slice_set slots i (Some after)) i)) (sym found)
    (subst (λ (o : Option (Option Stream)). IsAsActive (Some (Some s)) o) (sym (set_here slots i (Some after) within)) same))
as_gone slots i s after Q found within (inr q) = inr q

module _ {S H : Type 0} (performs : S → WorldEvent → S → Type 0) (steps : H → HandlerEvent → H → Type 0) where
  pub active_events : (a b : ℕ) (w w1 : S) (h : H) → (b ≡ a) ⊎ Performs performs w w1 (λ es. 0 < moved_in (map At es)) → (b ≡ a) ⊎ Traces performs steps w h w1 h (λ acts. 0 < moved_in acts)
  active_events a b w w1 h (inl same) = inl same
  active_events a b w w1 h (inr happened) = inr (record { acts = map At happened.events; leads = leads_at performs steps w w1 h happened.events happened.led; holds = happened.holds })

  -- after acts, and then others
  pub active_then : (P Q : List Act → Type 0) (a b c : ℕ) (w w1 w2 : S) (h h1 h2 : H) → Traces performs steps w h w1 h1 P → Traces performs steps w1 h1 w2 h2 Q
      → (b ≡ a) ⊎ Traces performs steps w h w1 h1 (λ acts. 0 < moved_in acts) → (c ≡ b) ⊎ Traces performs steps w1 h1 w2 h2 (λ acts. 0 < moved_in acts)
      → (c ≡ a) ⊎ Traces performs steps w h w2 h2 (λ acts. 0 < moved_in acts)
  active_then P Q a b c w w1 w2 h h1 h2 first next (inl same) (inl again) = inl (again ∙ same)
  active_then P Q a b c w w1 w2 h h1 h2 first next (inr moves) after = inr (record {
    acts = moves.acts ++ next.acts;
    leads = leads_both performs steps w w1 w2 h h1 h2 moves.acts next.acts moves.leads next.leads;
    holds = let both = moved_both moves.acts next.acts in let some = moves.holds in omega (arith, both, some);
  })
  active_then P Q a b c w w1 w2 h h1 h2 first next (inl same) (inr moves) = inr (record {
    acts = first.acts ++ moves.acts;
    leads = leads_both performs steps w w1 w2 h h1 h2 first.acts moves.acts first.leads moves.leads;
    holds = let both = moved_both first.acts moves.acts in let some = moves.holds in omega (arith, both, some);
  })
