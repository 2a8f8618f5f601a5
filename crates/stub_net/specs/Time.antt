-- When the calls of a network end, by a clock in milliseconds.
use Rattle.std.specs.Prelude.{◌≤◌, ◌+◌, ◌*◌, max, List, ℕ, Option, Some, Result, Ok, length}
use Rattle.std.specs.declared.net.socket_addr.SocketAddr.{SocketAddr}
use Rattle.stub_link.specs.declared.link.LinkError.{LinkError}
use Rattle.stub_net.specs.Network.{NetworkCalls}
use Rattle.stub_net.specs.declared.pool.NameServerPool.{NameServerPool}

-- ---- the clock

-- A clock of the states of a network, which no call sets back. It is what is read, up to the time that the reading takes. A receive
-- that begins after its deadline brings no datagram, so that whoever waits for a reply stops there, whatever else arrives.
pub record IsClock {N : Type 0} (calls : NetworkCalls N) (clock : N → ℕ) : Type 0 where
  pub sends : (old : N) (server : SocketAddr) (bytes : List ℕ) (result : Result (Unit {0}) LinkError) (new : N)
      → calls.sends old server bytes result new → clock old ≤ clock new
  pub receives : (old : N) (deadline : ℕ) (result : Result (Option (List ℕ)) LinkError) (new : N)
      → calls.receives old deadline result new → clock old ≤ clock new
  pub streams : (old : N) (server : SocketAddr) (bytes : List ℕ) (deadline : ℕ) (result : Result (List ℕ) LinkError) (new : N)
      → calls.streams old server bytes deadline result new → clock old ≤ clock new
  pub reads_clock : (old : N) (now : ℕ) (new : N) → calls.reads_clock old now new → (clock old ≤ now) × (now ≤ clock new)
  pub arrives : (old : N) (deadline : ℕ) (bytes : List ℕ) (new : N)
      → calls.receives old deadline (Ok (Some bytes)) new → clock old ≤ deadline

-- ---- calls that end in time

-- a call that waits for nothing ends at most `slack` milliseconds after it began
abbrev pub EndsAtOnce : {N : Type 0} → (N → ℕ) → ℕ → N → N → Type 0
EndsAtOnce clock slack old new = clock new ≤ clock old + slack

-- a call that waits until a deadline ends at most `slack` milliseconds after the deadline, or after it began if that was later
abbrev pub EndsBy : {N : Type 0} → (N → ℕ) → ℕ → ℕ → N → N → Type 0
EndsBy clock slack deadline old new = clock new ≤ max (clock old) deadline + slack

-- Each call of a network ends in time: a send and a reading of the clock at once, a receive and a stream by their deadline.
pub record IsPrompt {N : Type 0} (calls : NetworkCalls N) (clock : N → ℕ) (slack : ℕ) : Type 0 where
  pub sends : (old : N) (server : SocketAddr) (bytes : List ℕ) (result : Result (Unit {0}) LinkError) (new : N)
      → calls.sends old server bytes result new → EndsAtOnce clock slack old new
  pub receives : (old : N) (deadline : ℕ) (result : Result (Option (List ℕ)) LinkError) (new : N)
      → calls.receives old deadline result new → EndsBy clock slack deadline old new
  pub streams : (old : N) (server : SocketAddr) (bytes : List ℕ) (deadline : ℕ) (result : Result (List ℕ) LinkError) (new : N)
      → calls.streams old server bytes deadline result new → EndsBy clock slack deadline old new
  pub reads_clock : (old : N) (now : ℕ) (new : N) → calls.reads_clock old now new → EndsAtOnce clock slack old new

-- A network with a clock, each of whose calls ends in time.
pub record IsTimed {N : Type 0} (calls : NetworkCalls N) (clock : N → ℕ) (slack : ℕ) : Type 0 where
  pub clock_is : IsClock calls clock
  pub prompt : IsPrompt calls clock slack

-- The calls of a network that end in time. Of a network over sockets, whose system promises nothing, an exchange over these calls is
-- one in which each call ended in time.
abbrev pub prompt_calls : {N : Type 0} → (N → ℕ) → ℕ → NetworkCalls N → NetworkCalls N
prompt_calls clock slack calls = record {
  sends = λ old server bytes result new. calls.sends old server bytes result new × EndsAtOnce clock slack old new;
  receives = λ old deadline result new. calls.receives old deadline result new × EndsBy clock slack deadline old new;
  streams = λ old server bytes deadline result new.
      calls.streams old server bytes deadline result new × EndsBy clock slack deadline old new;
  reads_clock = λ old now new. calls.reads_clock old now new × EndsAtOnce clock slack old new;
}

-- ---- exchanges

-- An exchange takes at most two time-outs for each server and round, one for a datagram and one for a stream, and each of them may be
-- exceeded by three calls: the send, the reading of the clock and the receive, or the reading, the stream and another reading. One
-- more reading comes first.
pub record EndsInTime {N I : Type 0} (clock : N → ℕ) (slack : ℕ) (old new : NameServerPool N I) : Type 0 where
  pub forward : clock old.requester.network ≤ clock new.requester.network
  pub within : clock new.requester.network
      ≤ clock old.requester.network + slack
      + old.attempts * length old.servers.servers * (2 * (old.requester.timeout + 3 * slack))
