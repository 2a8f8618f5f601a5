-- A connection on which a part of a frame arrives, and no more: its bytes are held. More bytes than the longest frame has are refused.
use Rattle.std.proofs.Common.{◌≤◌, ℕ, List, [], ◌∷◌, true, false, length, None, Option, Some, arith, refl, ◌≡◌}
use Rattle.std.specs.declared.net.socket_addr.SocketAddr.{SocketAddr}
use Rattle.dns_sockets.specs.Connections.{Connected, Follows, IsReadAllowed}
use Rattle.dns_sockets.specs.Trace.{At}
use Rattle.dns_sockets.specs.Stream.{later_by}
use Rattle.dns_sockets.specs.Rotation.{HasGoneOn, IsAsActive}
use Rattle.dns_sockets.specs.World.{Accepted, Admitted, Read}
use Rattle.dns_sockets.specs.declared.stream.Stream.{Stream}
use Rattle.dns_sockets.proofs.BoundLaws.{waits_are}

-- the length of a frame of five bytes, and one of them
abbrev half : SocketAddr → Connected
half peer = record { peer = peer; unhandled = 0 ∷ 5 ∷ 1 ∷ []; unwritten = []; is_ending = false }

pub a_half_frame_is_held : (peer : SocketAddr) (accepted : Option SocketAddr)
    → Follows 0 (record { accepted = accepted; connection = None }) (At (Accepted 0 (Some peer)) ∷ At (Admitted 0 true) ∷ At (Read 0 (Some (0 ∷ 5 ∷ 1 ∷ []))) ∷ [])
    (record { accepted = None; connection = Some (half peer) })
a_half_frame_is_held peer accepted = (tt, ((refl, λ same. refl), ((λ same. (refl, omega arith)), refl)))

-- so many bytes more are not read
pub more_is_refused : (peer : SocketAddr) (bytes : List ℕ) → 65535 ≤ length bytes → IsReadAllowed (half peer) (Some bytes) → ⊥
more_is_refused peer bytes many allowed = let room = allowed.1 in omega (arith, many, room)

-- a connection that was closed at its turn, ten seconds after it was last active
pub one_is_closed : (old : Stream) (now : ℕ) → later_by old.last_activity 10000 ≤ now → HasGoneOn now (Some None) × IsAsActive (Some (Some old)) (Some None)
one_is_closed old now late = (tt, tt)

-- one that stays, and waits for its peer, is refused
pub one_that_stays_is_refused : (s : Stream) (now : ℕ) → later_by s.last_activity 10000 ≤ now → s.wants_turn ≡ false → s.held.items ≡ [] → HasGoneOn now (Some (Some s)) → ⊥
one_that_stays_is_refused s now late waits none gone = let early = waits_are s now gone waits none in omega (arith, early, late)
