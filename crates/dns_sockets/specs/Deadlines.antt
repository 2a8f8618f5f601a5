-- When a service has something to do without an event, and how long it waits.
use Rattle.std.specs.Prelude.{◌≡◌, ◌≢◌, ◌⊎◌, ◌-◌, ◌++◌, min, ℕ, List, [], ◌∷◌, Option, Some, None}
use Rattle.dns_sockets.specs.Notices.{sooner}
use Rattle.dns_sockets.specs.Stream.{deadline}
use Rattle.dns_sockets.specs.World.{WorldEvent, Clocked, Waited}
use Rattle.dns_sockets.specs.declared.datagrams.DatagramSocket.{DatagramSocket}
use Rattle.dns_sockets.specs.declared.listener.Listener.{Listener}
use Rattle.dns_sockets.specs.declared.service.Service.{Service}
use Rattle.dns_sockets.specs.declared.stream.Stream.{Stream}
use Rattle.dns_sockets.specs.schedule.Schedule.{first_moment}

-- the moment of what will not happen
abbrev pub never : ℕ
never = 18446744073709551615

-- the earliest moment of several
abbrev pub earliest : {A : Type 0} → (A → ℕ) → List A → ℕ
earliest moment_of [] = never
earliest moment_of (x ∷ xs) = min (moment_of x) (earliest moment_of xs)

-- when the connection at an index has something to do, if there is one
abbrev pub slot_deadline : Option Stream → ℕ
slot_deadline None = never
slot_deadline (Some stream) = deadline stream

-- when datagrams may wait at a socket
abbrev pub socket_deadline : DatagramSocket → ℕ
socket_deadline socket = socket.ready_at

-- when connections may wait at a listener
abbrev pub listener_deadline : Listener → ℕ
listener_deadline listener = listener.ready_at

-- when a service has something to do: a connection, a reply that waits, a datagram socket or a listener has
abbrev pub service_deadline : Service → ℕ
service_deadline s =
    min (min (sooner (earliest slot_deadline s.streams.slots.items) (first_moment s.waiting.items)) (earliest socket_deadline s.datagrams.items))
    (earliest listener_deadline s.listeners.items)

-- A service waits for events until a moment: without end if it will not come, and else for as long as it is away, by the clock.
abbrev pub WaitsUntil : ℕ → List WorldEvent → Type 0
WaitsUntil moment es =
    ((moment ≡ never) × (es ≡ Waited None ∷ []))
    ⊎ ((moment ≢ never) × ((es ≡ Clocked None ∷ []) ⊎ ((now : ℕ) × (es ≡ Clocked (Some now) ∷ Waited (Some (moment - now)) ∷ []))))

-- events end with a wait
abbrev pub EndsWithWait : List WorldEvent → Type 0
EndsWithWait es = (before : List WorldEvent) × (most : Option ℕ) × (es ≡ before ++ Waited most ∷ [])
