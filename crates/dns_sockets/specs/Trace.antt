-- What a service does: what happens between it and the world, and what its handler does, in order.
use Rattle.std.specs.Prelude.{◌≡◌, ◌⊎◌, ◌+◌, ◌++◌, ℕ, List, [], ◌∷◌, ⊤, length, Option, Some}
use Rattle.dns_sockets.specs.Events.{Led}
use Rattle.dns_sockets.specs.Handler.{HandlerEvent}
use Rattle.dns_sockets.specs.World.{WorldEvent, Clocked, Read, Received, Sent, Unreceived, Waited, Woken, Written}

-- for what a handler is called: what arrived at the datagram socket of an index, or on the connection of an index, or nothing that arrived
pub data Origin : Type 0 where
  Socket : ℕ → Origin
  Connection : ℕ → Origin
  Nowhere : Origin

-- one thing that a service does
pub data Act : Type 0 where
  At : WorldEvent → Act
  By : Origin → HandlerEvent → Act

-- these acts, one after another, lead a world and a handler from a state to another
abbrev pub Leads : {S H : Type 0} → (S → WorldEvent → S → Type 0) → (H → HandlerEvent → H → Type 0) → S → H → List Act → S → H → Type 0
Leads performs steps world handler [] new after = (world ≡ new) × (handler ≡ after)
Leads {S} {H} performs steps world handler (At event ∷ acts) new after =
    (mid : S) × (performs world event mid × Leads performs steps mid handler acts new after)
Leads {S} {H} performs steps world handler (By origin event ∷ acts) new after =
    (mid : H) × (steps handler event mid × Leads performs steps world mid acts new after)

-- acts that lead a world and a handler from a state to another have P
pub record Traces {S H : Type 0} (performs : S → WorldEvent → S → Type 0) (steps : H → HandlerEvent → H
    → Type 0) (world : S) (handler : H) (new : S) (after : H) (P : List Act → Type 0) : Type 0 where
  pub acts : List Act
  pub leads : Leads performs steps world handler acts new after
  pub holds : P acts

-- events of the world, and then calls of a handler, that lead both from a state to another, have P
pub record Consults {S H : Type 0} (performs : S → WorldEvent → S → Type 0) (steps : H → HandlerEvent → H
    → Type 0) (world : S) (handler : H) (new : S) (after : H) (P : List WorldEvent → List HandlerEvent → Type 0) : Type 0 where
  pub events : List WorldEvent
  pub calls : List HandlerEvent
  pub led : Led performs world events new
  pub called : Led steps handler calls after
  pub holds : P events calls

-- acts begin with this one
abbrev pub StartsWith : Act → List Act → Type 0
StartsWith act acts = (rest : List Act) × (acts ≡ act ∷ rest)

-- acts end with this one
abbrev pub EndsWith : Act → List Act → Type 0
EndsWith act acts = (before : List Act) × (acts ≡ before ++ act ∷ [])

-- how often a service waits in an act: once or not at all
abbrev pub waits_of : Act → ℕ
waits_of (At (Waited most)) = 1
waits_of act = 0

-- how often it waits in acts
abbrev pub waits_in : List Act → ℕ
waits_in [] = 0
waits_in (act ∷ acts) = waits_of act + waits_in acts

-- how many bytes were read or written in an act
abbrev pub moved_of : Act → ℕ
moved_of (At (Read stream (Some bytes))) = length bytes
moved_of (At (Written stream bytes)) = length bytes
moved_of act = 0

-- how many were in acts
abbrev pub moved_in : List Act → ℕ
moved_in [] = 0
moved_in (act ∷ acts) = moved_of act + moved_in acts

-- ---- what is no datagram

-- an event at no datagram socket
abbrev pub IsAsideEvent : WorldEvent → Type 0
IsAsideEvent (Received socket bytes peer) = ⊥
IsAsideEvent (Unreceived socket) = ⊥
IsAsideEvent (Sent socket bytes peer is_taken) = ⊥
IsAsideEvent event = ⊤

-- an event at no socket: the clock is read, or the service waits
abbrev pub IsQuiet : WorldEvent → Type 0
IsQuiet (Clocked moment) = ⊤
IsQuiet (Waited most) = ⊤
IsQuiet (Woken wake) = ⊤
IsQuiet event = ⊥

-- a call of the handler for what arrived on a connection
abbrev pub IsForStream : Origin → Type 0
IsForStream (Connection index) = ⊤
IsForStream origin = ⊥

-- an act that is about no datagram
abbrev pub IsAside : Act → Type 0
IsAside (At event) = IsAsideEvent event
IsAside (By origin event) = IsForStream origin

-- an event of the connection of an index, or a reading of the clock
abbrev pub IsEventOf : ℕ → WorldEvent → Type 0
IsEventOf index (Read stream bytes) = stream ≡ index
IsEventOf index (Written stream bytes) = stream ≡ index
IsEventOf index (Clocked moment) = ⊤
IsEventOf index event = ⊥

-- what arrived on the connection of an index
abbrev pub IsFor : ℕ → Origin → Type 0
IsFor index (Connection stream) = stream ≡ index
IsFor index origin = ⊥

-- an act that is about the connection of an index, or a reading of the clock
abbrev pub IsOfStream : ℕ → Act → Type 0
IsOfStream index (At event) = IsEventOf index event
IsOfStream index (By origin event) = IsFor index origin

-- at most a read on the connection of an index
abbrev pub MayRead : ℕ → List WorldEvent → Type 0
MayRead index es = (es ≡ []) ⊎ ((bytes : Option (List ℕ)) × (es ≡ Read index bytes ∷ []))
