-- The scripted link with its bytes, and the states without bytes that it is in.
use Rattle.std.specs.Prelude.{◌≡◌, ◌≤◌, length, List, [], ◌∷◌, ℕ, map, reverse, Bool, true, false, Option, Some, None, Result, Ok, Err, IsOk, OnOk, OnErr, option_map}
use Rattle.std.specs.Global.{Vec}
use Rattle.std.specs.List.{list_any}
use Rattle.std.specs.declared.alloc.AllocError.{AllocError}
use Rattle.dns_messages.specs.declared.message_type.MessageType.TheVariants as kinds
use Rattle.dns_messages.specs.declared.message.Message.{Message}
use Rattle.dns_messages.specs.Grammar.{ReadsMessage}
use Rattle.stub_link.specs.declared.link.LinkError.{LinkError}
use Rattle.stub_link.specs.declared.link.LinkError.TheVariants.{Failed, Memory}
use Rattle.stub_link.specs.declared.link.script.Script.{Script}
use Rattle.stub_link.specs.declared.link.script.Script.TheVariants as script
use Rattle.stub_link.specs.declared.link.server.Server.{Server}
use Rattle.stub_link.specs.declared.link.scripted.ScriptedLink.{ScriptedLink}
use Rattle.stub_link.specs.declared.link.script.LinkEvent.{LinkEvent}
use Rattle.stub_link.specs.declared.link.script.LinkEvent.TheVariants.{Quiet, Fail}
use Rattle.stub_link.specs.Link.{Rises}
use Rattle.stub_link.specs.LinkState.{Course, Honest, Listed, LinkState, begins_with_fail, end_event, is_delivery, message_of, receive_by, receive_listed, without_first, Receives as ReceivesMessage, Sends as SendsMessage, Streams as StreamsMessage}

-- ---- bytes and messages

-- the bytes of a request, to which the server replies
pub record IsRequest (bytes : List ℕ) (m : Message) : Type 0 where
  pub decodes : ReadsMessage bytes m
  pub kind : m.metadata.message_type ≡ kinds.Query

-- two lists whose items are related one by one
abbrev pub AreRelated : {A B : Type 0} → (A → B → Type 0) → List A → List B → Type 0
AreRelated R [] [] = Unit {0}
AreRelated R (x ∷ xs) (y ∷ ys) = R x y × AreRelated R xs ys
AreRelated R xs ys = ⊥

-- the bytes of some datagrams
abbrev pub bytes_of : Vec (Vec ℕ) → List (List ℕ)
bytes_of v = map (λ bytes. bytes.items) v.items

-- the bytes at the places of updates
abbrev pub places_of : Vec (Option (Vec ℕ)) → List (Option (List ℕ))
places_of v = map (option_map (λ bytes. bytes.items)) v.items

-- the place of an update
abbrev pub IsPlace : Option (List ℕ) → Option Message → Type 0
IsPlace (Some bytes) (Some m) = IsRequest bytes m
IsPlace None None = Unit {0}
IsPlace bytes m = ⊥

-- the bytes at a place, if there is such a place and it is not empty
abbrev pub named_place : Option (Option (List ℕ)) → Option (List ℕ)
named_place (Some bytes) = bytes
named_place None = None

-- ---- the server

-- the server has the zone, the limit and the replies of a state
pub record IsServerOf (server : Server) (state : LinkState) : Type 0 where
  pub zone : server.zone ≡ state.zone
  pub limit : server.limit ≡ state.limit
  pub replies : AreRelated (λ bytes r. ReadsMessage bytes (message_of state.limit r)) (reverse (bytes_of server.replies))
      state.replies

-- ---- the link

-- what a link has of a script: of the honest one what is under way, and of a listed one its events, the next one last
abbrev pub IsCourse : ScriptedLink → Course → Type 0
IsCourse link (Honest under_way) =
    (link.is_honest ≡ true) × AreRelated IsRequest (bytes_of link.under_way) under_way × (link.events.items ≡ [])
IsCourse link (Listed events) = (link.is_honest ≡ false) × (link.under_way.items ≡ []) × (reverse link.events.items ≡ events)

-- the server, and what was sent
pub record HasSent (link : ScriptedLink) (state : LinkState) : Type 0 where
  pub server : IsServerOf link.server state
  pub datagrams : AreRelated IsRequest (reverse (bytes_of link.datagrams)) state.datagrams
  pub updates : AreRelated IsPlace (places_of link.updates) state.updates

-- The link is in a state.
pub record Shows (link : ScriptedLink) (state : LinkState) : Type 0 where
  pub sent : HasSent link state
  pub course : IsCourse link state.course
  pub is_update : link.is_update ≡ state.is_update

-- Out of memory, nothing else is known.
pub record IsAt (link : ScriptedLink) (state : LinkState) : Type 0 where
  pub memory : link.out_of_memory ≡ state.out_of_memory
  pub shows : link.out_of_memory ≡ false → Shows link state

-- whether the link or its server has run out of memory
abbrev pub is_out_of_memory : ScriptedLink → Bool
is_out_of_memory link = link.out_of_memory

-- ---- calls

-- a call leads to a state in which the link is
abbrev pub LeadsTo : ScriptedLink → (LinkState → Type 0) → Type 0
LeadsTo new leads = (after : LinkState) × IsAt new after × leads after

-- once out of memory, always; and only a call that reports it runs out of memory
pub record KeepsMemory {X : Type 0} (old : ScriptedLink) (result : Result X LinkError) (new : ScriptedLink) : Type 0 where
  pub stays : old.out_of_memory ≡ true → new.out_of_memory ≡ true
  pub reported : old.out_of_memory ≡ false → new.out_of_memory ≡ true → result ≡ Err Memory

-- a script that is copied when its event begins
abbrev pub IsListed : Script → Type 0
IsListed (script.Listed events) = Unit {0}
IsListed script.Honest = ⊥

-- an event begins, at any moment; there may be no memory for its script
pub record IsBegun (old : ScriptedLink) (result : Result (Unit {0}) AllocError) (new : ScriptedLink)
    (begin : ℕ → LinkState → LinkState) : Type 0 where
  pub begins : OnOk result ((moment : ℕ) (state : LinkState) → IsAt old state → IsAt new (begin moment state))
  pub refused : OnErr result (new.out_of_memory ≡ true)
  pub failures : new.failures ≡ old.failures

-- nothing is left to deliver: no datagram is under way, and no event that is left of a script names one
abbrev pub IsDelivered : ScriptedLink → Type 0
IsDelivered link = (link.under_way.items ≡ []) × (list_any is_delivery link.events.items ≡ false)

-- an event ends; the server may run out of memory if something is left to deliver
pub record IsEnded (old : ScriptedLink) (result : Result (Unit {0}) AllocError) (new : ScriptedLink) : Type 0 where
  pub ends : OnOk result ((state : LinkState) → IsAt old state → IsAt new (end_event state))
  pub decided : IsDelivered old → IsOk result
  pub refused : OnErr result (new.out_of_memory ≡ true)
  pub failures : new.failures ≡ old.failures

-- what arrives over a stream, for a message
abbrev pub IsStreamReply : Message → Option (Vec ℕ) → Type 0
IsStreamReply m (Some bytes) = ReadsMessage bytes.items m
IsStreamReply m None = ⊥

-- a call that fails is counted, and no other one is
abbrev pub CountsFailure : {X : Type 0} → Result X LinkError → ℕ → ℕ → Type 0
CountsFailure (Err Failed) old new = Rises old new
CountsFailure (Err Memory) old new = new ≡ old
CountsFailure (Ok x) old new = new ≡ old

-- a call that finds `Fail` in front of the script fails, whatever memory there is
abbrev pub FailsFirst : {X : Type 0} → ScriptedLink → Result X LinkError → Type 0
FailsFirst link result = begins_with_fail (Listed (reverse link.events.items)) ≡ true → result ≡ Err Failed

-- A request is sent as its message is, from each state in which the link is.
pub record Sends (old : ScriptedLink) (bytes : List ℕ) (result : Result (Unit {0}) LinkError) (new : ScriptedLink) : Type 0 where
  pub memory : KeepsMemory old result new
  pub counts : CountsFailure result old.failures new.failures
  pub fault : FailsFirst old result
  pub states : (state : LinkState) (m : Message) → IsAt old state → old.out_of_memory ≡ false → IsRequest bytes m
      → LeadsTo new (λ after. SendsMessage state m result after)

-- the bytes of a datagram that comes, and its message
abbrev pub IsReceived : Result (Option (List ℕ)) LinkError → Result (Option Message) LinkError → Type 0
IsReceived (Ok (Some bytes)) (Ok (Some m)) = ReadsMessage bytes m
IsReceived (Ok None) (Ok None) = Unit {0}
IsReceived (Err error) (Err other) = error ≡ other
IsReceived received other = ⊥

-- what holds of a result unless it is want of memory
abbrev pub UnlessMemory : {X : Type 0} → Result X LinkError → Type 0 → Type 0
UnlessMemory (Err Memory) P = Unit {0}
UnlessMemory (Err Failed) P = P
UnlessMemory (Ok x) P = P

-- a receive by a listed script, whose next event is last
pub record ReceivesListed (old : ScriptedLink) (received : Result (Option (List ℕ)) LinkError) (new : ScriptedLink)
    (state : LinkState) : Type 0 where
  pub received_is : IsReceived received (receive_listed (reverse old.events.items) state).datagram
  pub sent : HasSent new (receive_listed (reverse old.events.items) state).state
  pub course : (receive_listed (reverse old.events.items) state).state.course ≡ Listed (reverse new.events.items)

-- a receive by the honest script
pub record ReceivesHonestly (old : ScriptedLink) (received : Option (List ℕ)) (new : ScriptedLink) (state : LinkState)
    (under_way : List Message) : Type 0 where
  pub received_is : IsReceived (Ok received) (receive_by (Honest under_way) state).datagram
  pub sent : HasSent new (receive_by (Honest under_way) state).state
  pub rest : List Message
  pub course : (receive_by (Honest under_way) state).state.course ≡ Honest rest
  pub under_way_is : AreRelated IsRequest (bytes_of new.under_way) rest

-- `Fail` is used up if it is in front
pub record TakesFail (old : ScriptedLink) (failed : Bool) (new : ScriptedLink) : Type 0 where
  pub front : failed ≡ begins_with_fail (Listed (reverse old.events.items))
  pub taken : failed ≡ true → Listed (reverse new.events.items) ≡ without_first (Listed (reverse old.events.items))
  pub kept : failed ≡ false → new.events.items ≡ old.events.items
  pub rest : new ≡ record old { events = new.events }

-- what is in front of a script decides a receive, whatever memory there is: `Quiet` and the end are quiet, and `Fail` fails
abbrev pub FrontDecides : List LinkEvent → Result (Option (List ℕ)) LinkError → Type 0
FrontDecides [] received = received ≡ Ok None
FrontDecides (Quiet ∷ events) received = received ≡ Ok None
FrontDecides (Fail ∷ events) received = received ≡ Err Failed
FrontDecides events received = Unit {0}

-- A receive that takes no memory: nothing is under way by the honest script, or the front of a listed one decides it.
pub record IsDecided (old : ScriptedLink) (received : Result (Option (List ℕ)) LinkError) : Type 0 where
  pub honest : old.is_honest ≡ true → old.under_way.items ≡ [] → received ≡ Ok None
  pub listed : old.is_honest ≡ false → FrontDecides (reverse old.events.items) received

-- A receive brings the bytes of a message that a receive without bytes brings.
pub record Receives (old : ScriptedLink) (received : Result (Option (List ℕ)) LinkError) (new : ScriptedLink) : Type 0 where
  pub memory : KeepsMemory old received new
  pub counts : CountsFailure received old.failures new.failures
  pub decided : IsDecided old received
  pub states : (state : LinkState) → IsAt old state → old.out_of_memory ≡ false
      → (datagram : Result (Option Message) LinkError) × IsReceived received datagram
      × LeadsTo new (λ after. ReceivesMessage state datagram after)

-- the bytes of a reply over a stream, and its message
abbrev pub IsStreamed : Result (List ℕ) LinkError → Result Message LinkError → Type 0
IsStreamed (Ok bytes) (Ok m) = ReadsMessage bytes m
IsStreamed (Err error) (Err other) = error ≡ other
IsStreamed result other = ⊥

-- A request over a stream, of at most 65,535 bytes, has the bytes of the reply to its message.
pub record Streams (old : ScriptedLink) (bytes : List ℕ) (result : Result (List ℕ) LinkError) (new : ScriptedLink) : Type 0 where
  pub memory : KeepsMemory old result new
  pub counts : CountsFailure result old.failures new.failures
  pub fault : FailsFirst old result
  pub states : (state : LinkState) (m : Message) → IsAt old state → old.out_of_memory ≡ false → IsRequest bytes m
      → length bytes ≤ 65535 → (answer : Result Message LinkError) × IsStreamed result answer
      × LeadsTo new (λ after. StreamsMessage state m answer after)
