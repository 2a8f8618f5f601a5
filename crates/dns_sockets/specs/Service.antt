-- What a service knows of its sockets, and how it takes note of what ended a wait.
use Rattle.std.specs.Prelude.{◌≡◌, ◌≤◌, ◌⊎◌, ◌++◌, ◌∷◌, [], true, false, length, map, Bool, List, Option, Some, None, slice_set}
use Rattle.std.specs.List.{AllByRecursion}
use Rattle.dns_sockets.specs.Deadlines.{EndsWithWait}
use Rattle.dns_sockets.specs.StreamTable.{noted_at}
use Rattle.dns_sockets.specs.Trace.{Act, At, EndsWith, waits_in}
use Rattle.dns_sockets.specs.World.{WorldEvent, Woken}
use Rattle.dns_sockets.specs.declared.datagrams.DatagramSocket.{DatagramSocket}
use Rattle.dns_sockets.specs.declared.listener.Listener.{Listener}
use Rattle.dns_sockets.specs.declared.service.Service.{Service}
use Rattle.dns_sockets.specs.declared.stream.Stream.{Stream}
use Rattle.dns_sockets.specs.declared.world.Wake.{Wake}
use Rattle.dns_sockets.specs.declared.world.Wake.TheVariants as wakes

-- what a service knows of its datagram sockets, its listeners and its connections
pub record Known : Type 0 where
  pub datagrams : List DatagramSocket
  pub listeners : List Listener
  pub streams : List (Option Stream)

-- the same of a service
abbrev pub known_of : Service → Known
known_of s = record { datagrams = s.datagrams.items; listeners = s.listeners.items; streams = s.streams.slots.items }

-- what is known once a wait ended: datagrams or connections may wait at a socket, or a connection is ready
abbrev pub noted_by : Wake → Known → Known
noted_by (wakes.Datagrams index) known = record known { datagrams = slice_set known.datagrams index (record { ready_at = 0 }) }
noted_by (wakes.Listener index) known = record known { listeners = slice_set known.listeners index (record { ready_at = 0 }) }
noted_by (wakes.Stream index is_readable is_writable) known =
    record known { streams = noted_at known.streams index is_readable is_writable }
noted_by wakes.End known = known

-- the same after one thing after another
abbrev pub noted_by_all : List Wake → Known → Known
noted_by_all [] known = known
noted_by_all (wake ∷ more) known = noted_by_all more (noted_by wake known)

-- whether the service is to end
abbrev pub is_over : Wake → Bool
is_over (wakes.Datagrams index) = false
is_over (wakes.Listener index) = false
is_over (wakes.Stream index is_readable is_writable) = false
is_over wakes.End = true

-- the world says that this ended a wait
abbrev pub woken : Wake → WorldEvent
woken wake = Woken (Some wake)

-- what the world says in the end: that the service is to end, or that nothing more ended the wait. It is asked 2^64 - 1 times at most.
abbrev pub IsAskedUntil : Bool → List Wake → List WorldEvent → Type 0
IsAskedUntil true noted es = es ≡ map woken noted ++ Woken (Some wakes.End) ∷ []
IsAskedUntil false noted es = (es ≡ map woken noted ++ Woken None ∷ []) ⊎ ((es ≡ map woken noted) × (length noted ≡ 18446744073709551615))

-- A service takes note of all that ended a wait, in this order, until the world says that it is to end, or that there is nothing more.
pub record Notes (ends : Bool) (old : Known) (es : List WorldEvent) (new : Known) : Type 0 where
  pub noted : List Wake
  pub of_sockets : AllByRecursion (λ wake. is_over wake ≡ false) noted
  pub asked : IsAskedUntil ends noted es
  pub known : new ≡ noted_by_all noted old

-- the world says that a service is to end
abbrev pub over : Act
over = At (Woken (Some wakes.End))

-- A service is over: the world said so, or it has waited 2^64 - 1 times.
abbrev pub IsOver : List Act → Type 0
IsOver acts = EndsWith over acts ⊎ (18446744073709551615 ≤ waits_in acts)

-- A turn of a service: it waits, takes note of what ended the wait, and then serves its sockets, unless it is to end.
pub record StartsTurn (ends : Bool) (known : Known) (acts : List Act) : Type 0 where
  pub waited : List WorldEvent
  pub noted : List WorldEvent
  pub served : List Act
  pub acts_are : acts ≡ map At waited ++ (map At noted ++ served)
  pub waits : EndsWithWait waited
  pub left : Known
  pub notes : Notes ends known noted left
  pub ends_there : ends ≡ true → served ≡ []
