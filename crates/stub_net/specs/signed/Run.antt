-- Runs of a network: its calls, one after another.
use Rattle.std.specs.Prelude.{◌≡◌, List, [], ◌∷◌, ℕ, Option, Result}
use Rattle.std.specs.declared.net.socket_addr.SocketAddr.{SocketAddr}
use Rattle.stub_link.specs.declared.link.LinkError.{LinkError}
use Rattle.stub_net.specs.Network.{NetworkCalls}

-- a step of a run: a call of the network, with what it was given and what it resulted in
pub data NetworkStep : Type 0 where
  Sent : SocketAddr → List ℕ → Result (Unit {0}) LinkError → NetworkStep
  Received : ℕ → Result (Option (List ℕ)) LinkError → NetworkStep
  Streamed : SocketAddr → List ℕ → ℕ → Result (List ℕ) LinkError → NetworkStep
  ClockRead : ℕ → NetworkStep

-- a step may lead from a state of a network to another
abbrev pub IsStep : {N : Type 0} → NetworkCalls N → N → NetworkStep → N → Type 0
IsStep calls old (Sent server bytes result) new = calls.sends old server bytes result new
IsStep calls old (Received deadline result) new = calls.receives old deadline result new
IsStep calls old (Streamed server bytes deadline result) new = calls.streams old server bytes deadline result new
IsStep calls old (ClockRead now) new = calls.reads_clock old now new

-- the steps of a run, one after another, may lead from a state of a network to another
abbrev pub IsRun : {N : Type 0} → NetworkCalls N → N → List NetworkStep → N → Type 0
IsRun calls old [] new = new ≡ old
IsRun {N} calls old (step ∷ run) new = (mid : N) × IsStep calls old step mid × IsRun calls mid run new

-- a step of a wait: something is received, or nothing, or the clock is read; nothing is sent
abbrev pub IsOfWait : NetworkStep → Type 0
IsOfWait (Received deadline result) = Unit {0}
IsOfWait (ClockRead now) = Unit {0}
IsOfWait (Sent server bytes result) = ⊥
IsOfWait (Streamed server bytes deadline result) = ⊥

-- a step that neither sends nor receives
abbrev pub IsClockRead : NetworkStep → Type 0
IsClockRead (ClockRead now) = Unit {0}
IsClockRead (Received deadline result) = ⊥
IsClockRead (Sent server bytes result) = ⊥
IsClockRead (Streamed server bytes deadline result) = ⊥
