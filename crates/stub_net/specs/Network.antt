-- What the calls of a network may do.
use Rattle.std.specs.Prelude.{List, ℕ, Option, Result}
use Rattle.std.specs.declared.net.socket_addr.SocketAddr.{SocketAddr}
use Rattle.stub_link.specs.declared.link.LinkError.{LinkError}

-- The calls of a network: from a state, a call may have this result and lead to that state.
pub record NetworkCalls (N : Type 0) : Type 1 where
  pub sends : N → SocketAddr → List ℕ → Result (Unit {0}) LinkError → N → Type 0
  pub receives : N → ℕ → Result (Option (List ℕ)) LinkError → N → Type 0
  pub streams : N → SocketAddr → List ℕ → ℕ → Result (List ℕ) LinkError → N → Type 0
  pub reads_clock : N → ℕ → N → Type 0

-- the calls of a network by its four relations
abbrev pub network_calls : {N : Type 0} → (N → SocketAddr → List ℕ → Result (Unit {0}) LinkError → N → Type 0)
    → (N → ℕ → Result (Option (List ℕ)) LinkError → N → Type 0)
    → (N → SocketAddr → List ℕ → ℕ → Result (List ℕ) LinkError → N → Type 0) → (N → ℕ → N → Type 0) → NetworkCalls N
network_calls sends receives streams reads_clock =
    record { sends = sends; receives = receives; streams = streams; reads_clock = reads_clock }
