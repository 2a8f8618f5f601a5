-- A network of what has come so far.
use Rattle.std.specs.Prelude.{◌≡◌, ◌⊎◌, max, List, [], ◌∷◌, ℕ, Option, Some, None, Result, Ok, Err}
use Rattle.std.specs.declared.net.socket_addr.SocketAddr.{SocketAddr}
use Rattle.stub_config.specs.declared.config.connection.Protocol.{Protocol}
use Rattle.stub_config.specs.declared.config.connection.Protocol.TheVariants.{Tcp, Udp}
use Rattle.stub_link.specs.Wait.{one_more}
use Rattle.stub_link.specs.declared.link.LinkError.{LinkError}
use Rattle.stub_link.specs.declared.link.LinkError.TheVariants as link
use Rattle.api_resolver.specs.declared.event.Arrival.{Arrival}
use Rattle.api_resolver.specs.declared.event.Arrival.TheVariants.{Failed, Message, TimedOut}
use Rattle.api_resolver.specs.declared.event.Event.{Event}
use Rattle.api_resolver.specs.declared.event.Outgoing.{Outgoing}

-- A network: its clock, in milliseconds, the events that are left, the message that was sent last and how many were sent, and the
-- deadline of the wait for which no event was left.
pub record ReplayState : Type 0 where
  pub clock : ℕ
  pub events : List Event
  pub outgoing : Option Outgoing
  pub count : ℕ
  pub deadline : Option ℕ

-- before any call
abbrev pub first_replay : ℕ → List Event → ReplayState
first_replay start events = record { clock = start; events = events; outgoing = None; count = 0; deadline = None }

-- a message is sent
abbrev pub with_outgoing : Protocol → SocketAddr → List ℕ → ReplayState → ReplayState
with_outgoing protocol server bytes state = record state {
  outgoing = Some (record { protocol = protocol; server = server; bytes = bytes });
  count = one_more state.count;
}

-- A wait takes the next event, and the clock is not before it. Where none is left, its deadline is remembered.
pub data TakesEvent (deadline : ℕ) (old : ReplayState) : Option Arrival → ReplayState → Type 0 where
  no_event_is_left : old.events ≡ [] → TakesEvent deadline old None (record old { deadline = Some deadline })
  next_event : (next : Event) (rest : List Event) → old.events ≡ next ∷ rest
      → TakesEvent deadline old (Some next.arrival) (record old { clock = max old.clock next.moment; events = rest })

-- what a receive results in; without an event the exchange ends, as for want of memory
abbrev pub received : Option Arrival → Result (Option (List ℕ)) LinkError
received (Some (Message bytes)) = Ok (Some bytes)
received (Some TimedOut) = Ok None
received (Some Failed) = Err link.Failed
received None = Err link.Memory

-- what a stream results in
abbrev pub streamed : Option Arrival → Result (List ℕ) LinkError
streamed (Some (Message bytes)) = Ok bytes
streamed (Some TimedOut) = Err link.Failed
streamed (Some Failed) = Err link.Failed
streamed None = Err link.Memory

-- A datagram is sent. There may be no memory to remember it.
abbrev pub Sends : ReplayState → SocketAddr → List ℕ → Result (Unit {0}) LinkError → ReplayState → Type 0
Sends old server bytes result new =
    ((result ≡ Err link.Memory) × (new ≡ old)) ⊎ ((result ≡ Ok tt) × (new ≡ with_outgoing Udp server bytes old))

-- a receive takes the next event
abbrev pub Receives : ReplayState → ℕ → Result (Option (List ℕ)) LinkError → ReplayState → Type 0
Receives old deadline result new = (arrival : Option Arrival) × (result ≡ received arrival) × TakesEvent deadline old arrival new

-- A message is sent over a stream, which takes the next event. There may be no memory to remember it.
abbrev pub Streams : ReplayState → SocketAddr → List ℕ → ℕ → Result (List ℕ) LinkError → ReplayState → Type 0
Streams old server bytes deadline result new =
    ((result ≡ Err link.Memory) × (new ≡ old))
    ⊎ ((arrival : Option Arrival) × (result ≡ streamed arrival)
    × TakesEvent deadline (with_outgoing Tcp server bytes old) arrival new)

-- the clock is read
abbrev pub ReadsClock : ReplayState → ℕ → ReplayState → Type 0
ReadsClock old now new = (now ≡ old.clock) × (new ≡ old)
