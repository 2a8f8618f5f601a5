-- A network in memory, which follows a script.
use Rattle.std.specs.Prelude.{◌≡◌, ◌<◌, ◌≤◌, ◌+◌, ◌-◌, ◌^◌, ◌⊎◌, min, max, Bool, true, false, List, [], ◌∷◌, ◌++◌, ℕ, Option, Some, None, Result, Ok, Err}
use Rattle.std.specs.declared.net.socket_addr.SocketAddr.{SocketAddr}
use Rattle.stub_config.specs.declared.config.connection.Protocol.{Protocol}
use Rattle.stub_config.specs.declared.config.connection.Protocol.TheVariants.{Tcp, Udp}
use Rattle.stub_link.specs.declared.link.LinkError.{LinkError}
use Rattle.stub_link.specs.declared.link.LinkError.TheVariants.{Failed, Memory}
use Rattle.stub_net.specs.Network.{NetworkCalls, network_calls}
use Rattle.stub_net.specs.declared.network.scripted.NetworkEvent.{NetworkEvent}
use Rattle.stub_net.specs.declared.network.scripted.NetworkEvent.TheVariants.{Arrival, Failure, SendFailure, Silence}
use Rattle.stub_net.specs.declared.network.scripted.TimedEvent.{TimedEvent}
use Rattle.stub_net.specs.declared.network.scripted.Transmission.{Transmission}

-- a network: its clock, in milliseconds, the events that are left, and what it was given to send
pub record ScriptState : Type 0 where
  pub clock : ℕ
  pub script : List TimedEvent
  pub sent : List Transmission

-- before any call
abbrev pub first_script : List TimedEvent → ScriptState
first_script script = record { clock = 0; script = script; sent = [] }

-- so many milliseconds later, up to 2^64 - 1
abbrev pub later : ℕ → ℕ → ℕ
later clock delay = clock + min delay (2 ^ 64 - 1 - clock)

-- a message is given to send
abbrev pub transmit : Protocol → SocketAddr → List ℕ → ScriptState → ScriptState
transmit protocol server bytes state = record state {
  sent = state.sent ++ record { moment = state.clock; protocol = protocol; server = server; bytes = bytes } ∷ [];
}

-- ---- sends

-- whether an event is that of a send that fails
abbrev pub is_send_failure : NetworkEvent → Bool
is_send_failure SendFailure = true
is_send_failure (Arrival bytes) = false
is_send_failure Silence = false
is_send_failure Failure = false

-- whether the next event is that of a send that fails, which is taken then
abbrev pub TakesFirstSendFailure : List TimedEvent → Bool → List TimedEvent → Type 0
TakesFirstSendFailure [] taken rest = (taken ≡ false) × (rest ≡ [])
TakesFirstSendFailure (next ∷ others) true rest = (is_send_failure next.event ≡ true) × (rest ≡ others)
TakesFirstSendFailure (next ∷ others) false rest = (is_send_failure next.event ≡ false) × (rest ≡ next ∷ others)

-- nothing else changes
pub record TakesSendFailure (old : ScriptState) (taken : Bool) (new : ScriptState) : Type 0 where
  pub takes : TakesFirstSendFailure old.script taken new.script
  pub others : new ≡ record old { script = new.script }

-- a send fails exactly if its event is next
abbrev pub send_result : Bool → Result (Unit {0}) LinkError
send_result true = Err Failed
send_result false = Ok tt

-- A datagram is recorded, and sent or not. There may be no memory for it.
abbrev pub Sends : ScriptState → SocketAddr → List ℕ → Result (Unit {0}) LinkError → ScriptState → Type 0
Sends old server bytes result new =
    ((result ≡ Err Memory) × (new ≡ old))
    ⊎ ((taken : Bool) × (result ≡ send_result taken) × TakesSendFailure (transmit Udp server bytes old) taken new)

-- ---- receives

-- the next event comes up to a deadline, or else nothing arrives before it
pub data TakesEvent (deadline : ℕ) (old : ScriptState) : NetworkEvent → ScriptState → Type 0 where
  script_over : old.script ≡ [] → TakesEvent deadline old Silence old
  in_time : (next : TimedEvent) (rest : List TimedEvent) → old.script ≡ next ∷ rest → later old.clock next.delay ≤ deadline
      → TakesEvent deadline old next.event (record old { clock = later old.clock next.delay; script = rest })
  too_late : (next : TimedEvent) (rest : List TimedEvent) → old.script ≡ next ∷ rest → deadline < later old.clock next.delay
      → TakesEvent deadline old Silence (record old { script = rest })

-- what a receive results in
abbrev pub received : NetworkEvent → Result (Option (List ℕ)) LinkError
received (Arrival bytes) = Ok (Some bytes)
received Silence = Ok None
received Failure = Err Failed
received SendFailure = Err Failed

-- where nothing arrives, the deadline passes
abbrev pub passed : ℕ → NetworkEvent → ScriptState → ScriptState
passed deadline Silence state = record state { clock = max state.clock deadline }
passed deadline (Arrival bytes) state = state
passed deadline Failure state = state
passed deadline SendFailure state = state

-- A receive takes the next event.
pub record Receives (old : ScriptState) (deadline : ℕ) (result : Result (Option (List ℕ)) LinkError) (new : ScriptState) : Type 0 where
  pub event : NetworkEvent
  pub mid : ScriptState
  pub takes : TakesEvent deadline old event mid
  pub result_is : result ≡ received event
  pub new_is : new ≡ passed deadline event mid

-- a stream over which nothing is received has failed
abbrev pub stream_result : Result (Option (List ℕ)) LinkError → Result (List ℕ) LinkError
stream_result (Ok (Some bytes)) = Ok bytes
stream_result (Ok None) = Err Failed
stream_result (Err error) = Err error

-- A message over a stream is recorded, and the next event is taken. There may be no memory for it.
abbrev pub Streams : ScriptState → SocketAddr → List ℕ → ℕ → Result (List ℕ) LinkError → ScriptState → Type 0
Streams old server bytes deadline result new =
    ((result ≡ Err Memory) × (new ≡ old))
    ⊎ ((came : Result (Option (List ℕ)) LinkError) × (result ≡ stream_result came)
    × Receives (transmit Tcp server bytes old) deadline came new)

-- the clock is read
abbrev pub ReadsClock : ScriptState → ℕ → ScriptState → Type 0
ReadsClock old now new = (now ≡ old.clock) × (new ≡ old)

-- the calls of a network in memory
abbrev pub script_calls : NetworkCalls ScriptState
script_calls = network_calls Sends Receives Streams ReadsClock
