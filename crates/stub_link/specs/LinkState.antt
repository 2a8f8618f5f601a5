-- The scripted link without bytes: the zone of its server, what was sent and replied in a run, and what is left of the script.
use Rattle.std.specs.Prelude.{◌≡◌, ◌&&◌, Bool, true, false, List, [], ◌∷◌, ◌++◌, ℕ, length, take, slice_get, ◌-◌, Option, Some, None, Result, Ok, Err, if◌then◌else◌}
use Rattle.std.specs.List.{fold}
use Rattle.dns_messages.specs.declared.response_code.ResponseCode.{ResponseCode}
use Rattle.dns_messages.specs.declared.response_code.ResponseCode.TheVariants.{NoError}
use Rattle.dns_messages.specs.declared.message.Message.{Message}
use Rattle.dns_messages.specs.Sound.{is_update_code}
use Rattle.dns_zone.specs.declared.transport.Transport.TheVariants.{Datagram, Stream}
use Rattle.dns_zone.specs.Rows.{Rows, ZoneContent}
use Rattle.dns_zone.specs.Serving.{reply, sent_reply, zone_after}
use Rattle.stub_link.specs.declared.link.LinkError.{LinkError}
use Rattle.stub_link.specs.declared.link.LinkError.TheVariants.{Failed, Memory}
use Rattle.stub_link.specs.declared.link.script.LinkEvent.{LinkEvent}
use Rattle.stub_link.specs.declared.link.script.LinkEvent.TheVariants.{Question, Update, Reply, Quiet, Fail}
use Rattle.stub_link.specs.declared.link.script.Script.{Script}
use Rattle.stub_link.specs.declared.link.script.Script.TheVariants as script
use Rattle.stub_link.specs.Link.{Calls}

-- ---- states

-- the rows of a zone from a moment on
pub record Version : Type 0 where
  pub moment : ℕ
  pub rows : Rows

-- A reply of the server to a datagram: the datagram, and the zone by which it was made at a moment.
pub record ServerReply : Type 0 where
  pub datagram : Message
  pub zone : ZoneContent
  pub moment : ℕ

-- What is left of an event's script. The honest one delivers each datagram of the event once, at the next receive: these are not
-- delivered yet, the oldest first.
pub data Course : Type 0 where
  Honest : (under_way : List Message) → Course
  Listed : (events : List LinkEvent) → Course

-- The server: its zone, the versions of the rows so far, the oldest first, and the maximum size of its datagrams. The event: its
-- moment, what is left of its script, and whether it is an update. What was sent: the datagrams of questions, the newest first,
-- and for each update event, the oldest first, its datagram, or none if it was not sent. What was replied to datagrams, the
-- newest first. Whether the link or its server has run out of memory.
pub record LinkState : Type 0 where
  pub zone : ZoneContent
  pub history : List Version
  pub limit : ℕ
  pub moment : ℕ
  pub course : Course
  pub is_update : Bool
  pub datagrams : List Message
  pub updates : List (Option Message)
  pub replies : List ServerReply
  pub out_of_memory : Bool

-- before any event: the zone's rows hold from moment 0 on
abbrev pub first_link_state : ZoneContent → ℕ → LinkState
first_link_state zone limit = record {
  zone = zone;
  history = record { moment = 0; rows = zone.rows } ∷ [];
  limit = limit;
  moment = 0;
  course = Honest [];
  is_update = false;
  datagrams = [];
  updates = [];
  replies = [];
  out_of_memory = false;
}

-- ---- deliveries

-- the message of a reply to a datagram
abbrev pub message_of : ℕ → ServerReply → Message
message_of limit r = sent_reply r.zone (Datagram limit) r.datagram

-- whether a response code is NoError (RFC 1035 section 4.1.1)
abbrev pub is_no_error : ResponseCode → Bool
is_no_error NoError = true
is_no_error code = false

-- whether a request changes the zone: an update whose response code is NoError (RFC 2136 section 3.4)
abbrev pub is_applied : ZoneContent → Message → Bool
is_applied zone m = is_update_code m.metadata.op_code && is_no_error (reply zone m).metadata.response_code

-- the versions after a request at a moment
abbrev pub history_after : ℕ → ZoneContent → Message → List Version → List Version
history_after moment zone m history =
    if is_applied zone m then history ++ record { moment = moment; rows = (zone_after zone m).rows } ∷ [] else history

-- the server takes a request
abbrev pub serve : Message → LinkState → LinkState
serve m state = record state {
  zone = zone_after state.zone m;
  history = history_after state.moment state.zone m state.history;
}

-- A datagram is delivered: the server replies by the zone as it is.
abbrev pub deliver : Message → LinkState → LinkState
deliver m state = record (serve m state) {
  replies = record { datagram = m; zone = state.zone; moment = state.moment } ∷ state.replies;
}

-- what names nothing is skipped
abbrev pub deliver_named : Option Message → LinkState → LinkState
deliver_named (Some m) state = deliver m state
deliver_named None state = state

-- the datagram at the place that an event names, if there is such a place and it is not empty
abbrev pub named_update : Option (Option Message) → Option Message
named_update (Some place) = place
named_update None = None

-- What a link event delivers: the n-th datagram of a question, 0 the newest; the datagram of the k-th update event, from 0.
abbrev pub deliver_event : LinkState → LinkEvent → LinkState
deliver_event state (Question n) = deliver_named (slice_get state.datagrams n) state
deliver_event state (Update k) = deliver_named (named_update (slice_get state.updates k)) state
deliver_event state event = state

-- ---- events

-- a script at its beginning
abbrev pub course_of : Script → Course
course_of script.Honest = Honest []
course_of (script.Listed events) = Listed events.items

-- an event that sends no update begins at a moment, with its script
abbrev pub begin_event : ℕ → Script → LinkState → LinkState
begin_event moment s state = record state { moment = moment; course = course_of s; is_update = false }

-- an event that sends an update begins: as any other, and with an empty place for its datagram
abbrev pub begin_update : ℕ → Script → LinkState → LinkState
begin_update moment s state =
    record state { moment = moment; course = course_of s; is_update = true; updates = state.updates ++ None ∷ [] }

-- What is left of a script is delivered, in order: the datagrams under way, or those that the events of a listed script name.
abbrev pub deliver_rest : Course → LinkState → LinkState
deliver_rest (Honest under_way) state = fold (λ now m. deliver m now) state under_way
deliver_rest (Listed events) state = fold deliver_event state events

-- An event ends: what is left of its script is delivered, and the honest script is followed again.
abbrev pub end_event : LinkState → LinkState
end_event state = deliver_rest state.course (record state { course = Honest [] })

-- whether an event of a script delivers what it names
abbrev pub is_delivery : LinkEvent → Bool
is_delivery (Question n) = true
is_delivery (Update k) = true
is_delivery event = false

-- ---- sending

-- whether `Fail` is in front of what is left of a script
abbrev pub begins_with_fail : Course → Bool
begins_with_fail (Listed (Fail ∷ events)) = true
begins_with_fail course = false

-- what is left of a listed script after its first event
abbrev pub without_first : Course → Course
without_first (Listed (event ∷ events)) = Listed events
without_first course = course

-- a call that finds `Fail` in front fails, and uses it up
abbrev pub fail : LinkState → LinkState
fail state = record state { course = without_first state.course }

-- a datagram is sent: the honest script has yet to deliver it, and a listed one delivers what it names
abbrev pub with_under_way : Message → Course → Course
with_under_way m (Honest under_way) = Honest (under_way ++ m ∷ [])
with_under_way m (Listed events) = Listed events

-- a list with another last item
abbrev pub with_last : {X : Type 0} → X → List X → List X
with_last x xs = take (length xs - 1) xs ++ x ∷ []

-- a datagram is sent: it is the newest of a question, or has the place of the update
abbrev pub send : Message → LinkState → LinkState
send m state =
    if state.is_update
    then record state { course = with_under_way m state.course; updates = with_last (Some m) state.updates }
    else record state { course = with_under_way m state.course; datagrams = m ∷ state.datagrams }

-- ---- receives

-- what a receive brings, and the state afterwards
pub record Received : Type 0 where
  pub datagram : Result (Option Message) LinkError
  pub state : LinkState

-- a receive that brings this, and leaves this of the script
abbrev pub receives_in : Result (Option Message) LinkError → Course → LinkState → Received
receives_in datagram course state = record { datagram = datagram; state = record state { course = course } }

-- the reply that an event names ends the receive; otherwise it goes on
abbrev pub receive_reply : Option ServerReply → List LinkEvent → LinkState → Received → Received
receive_reply (Some r) events state next = receives_in (Ok (Some (message_of state.limit r))) (Listed events) state
receive_reply None events state next = next

-- A receive follows a script up to a reply, `Quiet`, `Fail` or its end, which is quiet.
abbrev pub receive_listed : List LinkEvent → LinkState → Received
receive_listed [] state = receives_in (Ok None) (Listed []) state
receive_listed (Quiet ∷ events) state = receives_in (Ok None) (Listed events) state
receive_listed (Fail ∷ events) state = receives_in (Err Failed) (Listed events) state
receive_listed (Reply n ∷ events) state = receive_reply (slice_get state.replies n) events state (receive_listed events state)
receive_listed (Question n ∷ events) state = receive_listed events (deliver_event state (Question n))
receive_listed (Update k ∷ events) state = receive_listed events (deliver_event state (Update k))

-- The honest script delivers the oldest datagram that is under way, and brings its reply.
abbrev pub receive_by : Course → LinkState → Received
receive_by (Honest []) state = receives_in (Ok None) (Honest []) state
receive_by (Honest (m ∷ under_way)) state =
    receives_in (Ok (Some (sent_reply state.zone (Datagram state.limit) m))) (Honest under_way) (deliver m state)
receive_by (Listed events) state = receive_listed events state

-- a receive by the script of the event
abbrev pub receive : LinkState → Received
receive state = receive_by state.course state

-- ---- calls, which may run out of memory

-- a call fails exactly if `Fail` is in front
abbrev pub Sends : LinkState → Message → Result (Unit {0}) LinkError → LinkState → Type 0
Sends old m (Ok done) new = (begins_with_fail old.course ≡ false) × (new ≡ send m old)
Sends old m (Err Failed) new = (begins_with_fail old.course ≡ true) × (new ≡ fail old)
Sends old m (Err Memory) new = new.out_of_memory ≡ true

-- A receive brings what the script says. If the link or its server runs out of memory, that is known from then on.
abbrev pub Receives : LinkState → Result (Option Message) LinkError → LinkState → Type 0
Receives old (Ok datagram) new = receive old ≡ record { datagram = Ok datagram; state = new }
Receives old (Err Failed) new = receive old ≡ record { datagram = Err Failed; state = new }
Receives old (Err Memory) new = new.out_of_memory ≡ true

-- A request over a stream is served at once.
abbrev pub Streams : LinkState → Message → Result Message LinkError → LinkState → Type 0
Streams old m (Ok answer) new =
    (begins_with_fail old.course ≡ false) × (answer ≡ sent_reply old.zone Stream m) × (new ≡ serve m old)
Streams old m (Err Failed) new = (begins_with_fail old.course ≡ true) × (new ≡ fail old)
Streams old m (Err Memory) new = new.out_of_memory ≡ true

-- the calls of the scripted link without bytes
abbrev pub link_calls : Calls LinkState Message
link_calls = record {
  sends = λ old m result new. Sends old m result new;
  receives = λ old received new. Receives old received new;
  streams = λ old m result new. Streams old m result new;
}
