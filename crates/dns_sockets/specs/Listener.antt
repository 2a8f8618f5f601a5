-- How connections are accepted: each is admitted to the table, where the system and the table have room for it, or closed.
use Rattle.std.specs.Prelude.{◌≡◌, ◌+◌, ◌<◌, ◌≤◌, ◌++◌, ◌∷◌, [], true, false, Bool, ℕ, List, None, Some, slice_get, slice_set}
use Rattle.std.specs.declared.net.socket_addr.SocketAddr.{SocketAddr}
use Rattle.dns_sockets.specs.Deadlines.{never}
use Rattle.dns_sockets.specs.Stream.{IsNew, later_by}
use Rattle.dns_sockets.specs.StreamTable.{IsLeastActive, Vacates, closed_at}
use Rattle.dns_sockets.specs.World.{WorldEvent, Admitted, Closed, accept_event}
use Rattle.dns_sockets.specs.declared.listener.Listener.{Listener}
use Rattle.dns_sockets.specs.declared.stream.Stream.{Stream}
use Rattle.dns_sockets.specs.declared.stream_table.StreamTable.{StreamTable}
use Rattle.dns_sockets.specs.declared.world.Arrival.{Arrival}
use Rattle.dns_sockets.specs.declared.world.Arrival.TheVariants as arrivals

-- What becomes of a connection from a peer that was accepted at a moment, with these events: the table gets a place for it, and
-- the system gives it
-- that index, or cannot. Where the table has no place, or the system gives none, no connection is added.
pub data Admits (peer : SocketAddr) (now : ℕ) (old new : StreamTable) (es : List WorldEvent) : Type 0 where
  is_admitted : (mid : StreamTable) (vacated : List WorldEvent) (index : ℕ) (s : Stream)
      → Vacates old mid vacated (Some index) → IsNew peer now s
      → es ≡ vacated ++ Admitted index true ∷ [] → new.slots.items ≡ slice_set mid.slots.items index (Some s)
      → Admits peer now old new es
  is_refused : (vacated : List WorldEvent) (index : ℕ) → Vacates old new vacated (Some index)
      → es ≡ vacated ++ Admitted index false ∷ []
      → Admits peer now old new es
  has_no_place : Vacates old new es None → Admits peer now old new es

-- What becomes of an arrival at a moment, with these events, and whether another attempt follows at once. Where the system
-- fails, the connection
-- that was active least recently is closed, and the listener waits for 100 milliseconds.
abbrev pub IsTaken : Arrival → ℕ → Listener → StreamTable → List WorldEvent → Listener → StreamTable → Bool → Type 0
IsTaken (arrivals.Connection peer) now old table es new after follows =
    Admits peer now table after es × ((new ≡ old) × (follows ≡ true))
IsTaken arrivals.Interrupted now old table es new after follows = (es ≡ []) × ((after ≡ table) × ((new ≡ old) × (follows ≡ true)))
IsTaken arrivals.Nothing now old table es new after follows =
    (es ≡ []) × ((after ≡ table) × ((new ≡ record { ready_at = never }) × (follows ≡ false)))
IsTaken arrivals.Failed now old table es new after follows =
    (oldest : ℕ) × (IsLeastActive table.slots.items oldest × ((es ≡ Closed oldest ∷ [])
    × ((after.slots.items ≡ closed_at table.slots.items oldest)
    × ((new ≡ record { ready_at = later_by now 100 }) × (follows ≡ false)))))

-- an attempt to accept a connection: the listener of an index is asked, and this becomes of the arrival
abbrev pub IsAttempt : ℕ → ℕ → Listener → StreamTable → List WorldEvent → Listener → StreamTable → Bool → Type 0
IsAttempt index now old table es new after follows =
    (arrival : Arrival) × (rest : List WorldEvent) × ((es ≡ accept_event index arrival ∷ rest)
    × IsTaken arrival now old table rest new after follows)

-- so many attempts, one after another
pub data Attempts (index now : ℕ) (old : Listener) (table : StreamTable) : ℕ → List WorldEvent → Listener → StreamTable
    → Type 0 where
  no_attempt : Attempts index now old table 0 [] old table
  one_attempt : (count : ℕ) (before more : List WorldEvent) (mid new : Listener) (between after : StreamTable)
      → Attempts index now old table count before mid between → IsAttempt index now mid between more new after true
      → Attempts index now old table (count + 1) (before ++ more) new after

-- The connections that wait at the listener of an index are accepted: none before its moment, and else until none waits or the
-- system fails, but
-- 64 at most.
pub data Accepts (index now : ℕ) (old : Listener) (table : StreamTable) (es : List WorldEvent) (new : Listener) (after : StreamTable) : Type 0 where
  is_early : now < old.ready_at → es ≡ [] → new ≡ old → after ≡ table → Accepts index now old table es new after
  ends_with : old.ready_at ≤ now → (count : ℕ) (before more : List WorldEvent) (mid : Listener) (between : StreamTable)
      → count < 64
      → Attempts index now old table count before mid between → IsAttempt index now mid between more new after false
      → es ≡ before ++ more
      → Accepts index now old table es new after
  has_share : old.ready_at ≤ now → Attempts index now old table 64 es new after → Accepts index now old table es new after

-- the same for the listener of an index, among those of a service
pub record AcceptsAt (index now : ℕ) (old : List Listener) (table : StreamTable) (es : List WorldEvent) (new : List Listener) (after : StreamTable)
    : Type 0 where
  pub before : Listener
  pub left : Listener
  pub is_there : slice_get old index ≡ Some before
  pub is_set : new ≡ slice_set old index left
  pub accepts : Accepts index now before table es left after

-- the same for the first listeners, one after another
pub data AcceptsAll (now : ℕ) (old : List Listener) (table : StreamTable) : ℕ → List WorldEvent → List Listener → StreamTable
    → Type 0 where
  no_listener : AcceptsAll now old table 0 [] old table
  one_listener : (count : ℕ) (before more : List WorldEvent) (mid new : List Listener) (between after : StreamTable)
      → AcceptsAll now old table count before mid between → AcceptsAt count now mid between more new after
      → AcceptsAll now old table (count + 1) (before ++ more) new after
