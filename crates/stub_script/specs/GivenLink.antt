-- What a link does that answers by the replies of a script.
use Rattle.std.specs.Prelude.{◌≡◌, ◌≤◌, ◌<◌, ◌+◌, ◌-◌, ◌^◌, ◌&&◌, ◌++◌, nat_lt, min, if◌then◌else◌, Bool, true, false, List, [], ◌∷◌, ℕ, length, map, slice_get, Option, Some, None, Result, Ok, Err}
use Rattle.std.specs.Global.{Vec}
use Rattle.std.specs.declared.alloc.AllocError.{AllocError}
use Rattle.stub_link.specs.declared.link.LinkError.{LinkError}
use Rattle.stub_link.specs.declared.link.LinkError.TheVariants.{Memory}
use Rattle.stub_link.specs.declared.trace.note_text.RequestNote.{RequestNote}
use Rattle.stub_link.specs.trace.RequestNote.{ReadsRequest, asks}
use Rattle.stub_run.specs.declared.event.Event.{Event}
use Rattle.stub_script.specs.ReplyLine.{message_bytes}
use Rattle.stub_script.specs.declared.given_link.GivenLink.{GivenLink}
use Rattle.stub_script.specs.declared.reply_line.GivenAnswer.{GivenAnswer}
use Rattle.stub_script.specs.declared.reply_line.GivenAnswer.TheVariants.{Server, Messages}
use Rattle.stub_script.specs.declared.reply_line.GivenMessage.{GivenMessage}
use Rattle.stub_script.specs.declared.reply_line.GivenReply.{GivenReply}
use Rattle.stub_script.specs.declared.reply_line.ReplyTransport.{ReplyTransport}
use Rattle.stub_script.specs.declared.reply_line.ReplyTransport.TheVariants.{Datagram, Stream}

-- ---- which reply

-- whether two transports are the same
abbrev pub same_transport : ReplyTransport → ReplyTransport → Bool
same_transport Datagram Datagram = true
same_transport Stream Stream = true
same_transport a b = false

-- whether a reply is about a request of an event on this line, over a transport: its line is above, and the request asks its question
abbrev pub is_about : ℕ → ReplyTransport → RequestNote → GivenReply → Bool
is_about line transport request reply =
    nat_lt reply.line line && (same_transport reply.transport transport && asks request.question reply.question)

-- the first reply about a request
abbrev pub first_about : ℕ → ReplyTransport → RequestNote → List GivenReply → Option GivenReply
first_about line transport request [] = None
first_about line transport request (reply ∷ replies) =
    if is_about line transport request reply then Some reply else first_about line transport request replies

-- the messages of an answer, or none if it is the server's
abbrev pub given_answer : GivenAnswer → Option (List GivenMessage)
given_answer Server = None
given_answer (Messages messages) = Some messages.items

-- the messages of a reply, if there is one, and it is not the server's
abbrev pub answer_if : Option GivenReply → Option (List GivenMessage)
answer_if (Some reply) = given_answer reply.answer
answer_if None = None

-- the messages that answer a request, or none if the script gives none
abbrev pub answer_to : ℕ → ReplyTransport → RequestNote → List GivenReply → Option (List GivenMessage)
answer_to line transport request replies = answer_if (first_about line transport request replies)

-- the messages that answer a request, if there is one
abbrev pub answer_for : ℕ → ReplyTransport → Option RequestNote → List GivenReply → Option (List GivenMessage)
answer_for line transport (Some request) replies = answer_to line transport request replies
answer_for line transport None replies = None

-- ---- messages

-- datagrams by their bytes
abbrev pub bytes_of : Vec (Vec ℕ) → List (List ℕ)
bytes_of datagrams = map (λ bytes. bytes.items) datagrams.items

-- the bytes of messages in reply to a request with this id
abbrev pub messages_bytes : ℕ → List GivenMessage → List (List ℕ)
messages_bytes id = map (message_bytes id)

-- the message that is received over a stream
abbrev pub stream_message : ℕ → List GivenMessage → List ℕ
stream_message id (message ∷ messages) = message_bytes id message
stream_message id [] = []

-- ---- states

-- the link with another one within
abbrev pub with_inner : {L : Type 0} → GivenLink L → L → GivenLink L
with_inner given link = record given { link = link }

-- the link with other datagrams that wait
abbrev pub with_waiting : {L : Type 0} → GivenLink L → Vec (Vec ℕ) → GivenLink L
with_waiting given waiting = record given { waiting = waiting }

-- The script gives these messages in answer to the request in bytes.
pub record IsAnswered {L : Type 0} (given : GivenLink L) (transport : ReplyTransport) (bytes : List ℕ) (request : RequestNote)
    (messages : List GivenMessage) : Type 0 where
  pub reads : ReadsRequest bytes (Some request)
  pub answer : answer_to given.line transport request given.replies.items ≡ Some messages

-- The script gives no answer to bytes.
abbrev pub IsPassedOn : {L : Type 0} → GivenLink L → ReplyTransport → List ℕ → Type 0
IsPassedOn given transport bytes =
    (request : Option RequestNote) × ReadsRequest bytes request × (answer_for given.line transport request given.replies.items ≡ None)

-- ---- calls

-- A datagram is sent: the messages that answer it wait, or the other link sends it. Memory is wanted to decode it, and for the messages.
pub data GivenSends {L : Type 0} (sends : L → List ℕ → Result (Unit {0}) LinkError → L → Type 0) (old : GivenLink L) (bytes : List ℕ)
    : Result (Unit {0}) LinkError → GivenLink L → Type 0 where
  messages_wait : {new : GivenLink L} (request : RequestNote) (messages : List GivenMessage) → IsAnswered old Datagram bytes request messages
      → bytes_of new.waiting ≡ bytes_of old.waiting ++ messages_bytes request.id messages → new ≡ with_waiting old new.waiting
      → GivenSends sends old bytes (Ok tt) new
  sent_by_link : {result : Result (Unit {0}) LinkError} {new : GivenLink L} → IsPassedOn old Datagram bytes
      → sends old.link bytes result new.link → new ≡ with_inner old new.link → GivenSends sends old bytes result new
  no_memory_to_send : {new : GivenLink L} → 12 ≤ length bytes → bytes_of new.waiting ≡ bytes_of old.waiting → new ≡ with_waiting old new.waiting
      → GivenSends sends old bytes (Err Memory) new

-- A datagram is received: the oldest that waits, or else what the other link receives.
pub data GivenReceives {L : Type 0} (receives : L → Result (Option (List ℕ)) LinkError → L → Type 0) (old : GivenLink L)
    : Result (Option (List ℕ)) LinkError → GivenLink L → Type 0 where
  oldest : {bytes : List ℕ} {new : GivenLink L} → bytes_of old.waiting ≡ bytes ∷ bytes_of new.waiting → new ≡ with_waiting old new.waiting
      → GivenReceives receives old (Ok (Some bytes)) new
  from_link : {result : Result (Option (List ℕ)) LinkError} {new : GivenLink L} → bytes_of old.waiting ≡ []
      → receives old.link result new.link → new ≡ with_inner old new.link → GivenReceives receives old result new

-- A request is sent over a stream: the message that answers it is received, or the other link sends it. Memory is wanted to decode it,
-- and for the message.
pub data GivenStreams {L : Type 0} (streams : L → List ℕ → Result (List ℕ) LinkError → L → Type 0) (old : GivenLink L) (bytes : List ℕ)
    : Result (List ℕ) LinkError → GivenLink L → Type 0 where
  message_given : {new : GivenLink L} (request : RequestNote) (messages : List GivenMessage) → IsAnswered old Stream bytes request messages
      → new ≡ old → GivenStreams streams old bytes (Ok (stream_message request.id messages)) new
  streamed_by_link : {result : Result (List ℕ) LinkError} {new : GivenLink L} → IsPassedOn old Stream bytes
      → streams old.link bytes result new.link → new ≡ with_inner old new.link → GivenStreams streams old bytes result new
  no_memory_to_stream : {new : GivenLink L} → 12 ≤ length bytes → new ≡ old → GivenStreams streams old bytes (Err Memory) new

-- ---- events

-- the greatest number of 64 bits
abbrev pub greatest : ℕ
greatest = 2 ^ 64 - 1

-- a line, or the greatest number if there is none
abbrev pub line_or_greatest : Option ℕ → ℕ
line_or_greatest (Some line) = line
line_or_greatest None = greatest

-- the line of the event after so many
abbrev pub next_line : List ℕ → ℕ → ℕ
next_line lines begun = line_or_greatest (slice_get lines begun)

-- An event begins on the other link; nothing waits.
pub record GivenBegins {L : Type 0} (begins : L → Event → L → Type 0) (old : GivenLink L) (e : Event) (new : GivenLink L) : Type 0 where
  pub link : begins old.link e new.link
  pub waiting : bytes_of new.waiting ≡ []
  pub line : new.line ≡ next_line old.lines.items old.begun
  pub begun : new.begun ≡ min (old.begun + 1) greatest
  pub rest : new ≡ record old { link = new.link; waiting = new.waiting; line = new.line; begun = new.begun }

-- An event ends on the other link.
abbrev pub GivenEnds : {L : Type 0} → (L → Result (Unit {0}) AllocError → L → Type 0) → GivenLink L → Result (Unit {0}) AllocError
    → GivenLink L → Type 0
GivenEnds ends old result new = ends old.link result new.link × (new ≡ with_inner old new.link)
