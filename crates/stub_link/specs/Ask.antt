-- One question (RFC 1035 section 7.3, RFC 5452 section 3, RFC 7766 section 5): a datagram, its reply, and a stream if the reply
-- is truncated. One definition for every link, and for the scripted link without bytes. Faults are numbered F1 to F9.
use Rattle.std.specs.Prelude.{◌≡◌, ◌⊎◌, Bool, true, false, [], ◌∷◌, ◌++◌, List, ℕ, length, slice_get, if◌then◌else◌, Option, Some, None, Result, Ok, Err}
use Rattle.dns_messages.specs.declared.query.Query.{Query}
use Rattle.dns_messages.specs.declared.message.Message.{Message}
use Rattle.dns_messages.specs.declared.response.DnsResponse.{DnsResponse}
use Rattle.stub_lookup.specs.declared.error.LinkFault.TheVariants as fault
use Rattle.stub_lookup.specs.declared.error.NetError.{NetError}
use Rattle.stub_lookup.specs.declared.error.NetError.TheVariants as net
use Rattle.stub_client.specs.Handle.{Outcome}
use Rattle.stub_link.specs.declared.link.LinkError.{LinkError}
use Rattle.stub_link.specs.declared.link.LinkError.TheVariants.{Failed, Memory}
use Rattle.stub_link.specs.Link.{Calls, Carrier}
use Rattle.stub_link.specs.Request.{IsQuestion, with_id}
use Rattle.stub_link.specs.Reply.{matches}
use Rattle.stub_link.specs.Wait.{Wait, one_more}

-- ---- who asks

-- An asker: its link, its ids, those that it has drawn, each with its question, and its counts: of the datagrams that were
-- dropped, of the requests that ended in a fault, and of the questions that were sent.
pub record Asker (L : Type 0) : Type 0 where
  pub link : L
  pub ids : List ℕ
  pub sent : List (ℕ × Query)
  pub dropped : ℕ
  pub faults : ℕ
  pub questions : ℕ

-- an id is drawn for a question
abbrev pub draw : {L : Type 0} → ℕ → Query → Asker L → Asker L
draw id q asker = record asker { sent = asker.sent ++ (id, q) ∷ [] }

-- only questions are counted
abbrev pub questions_after : Option Query → ℕ → ℕ
questions_after (Some q) count = one_more count
questions_after None count = count

-- ---- the datagram and its reply

-- the datagram was sent, and its reply is awaited
pub record IsAwaited {L D : Type 0} (carrier : Carrier D) (calls : Calls L D) (id : ℕ) (question : Option Query) (mid : Asker L)
    (outcome : Outcome) (new : Asker L) : Type 0 where
  pub link : L
  pub dropped : ℕ
  pub waits : Wait carrier calls 16 id question mid.link mid.dropped outcome link dropped
  pub new_is : new ≡ record mid { link = link; dropped = dropped; questions = questions_after question mid.questions }

-- the datagram was sent, or was not: F1
abbrev pub AfterSending : {L D : Type 0} → Carrier D → Calls L D → ℕ → Option Query → Result (Unit {0}) LinkError → Asker L
    → Outcome → Asker L → Type 0
AfterSending carrier calls id question (Ok done) mid outcome new = IsAwaited carrier calls id question mid outcome new
AfterSending carrier calls id question (Err Failed) mid outcome new = (outcome ≡ Err (net.Link fault.NotSent)) × (new ≡ mid)
AfterSending carrier calls id question (Err Memory) mid outcome new = (outcome ≡ Err net.Memory) × (new ≡ mid)

-- The datagram of a request is sent, and its reply awaited: F1 to F4, or the reply.
pub record IsSent {L D : Type 0} (carrier : Carrier D) (calls : Calls L D) (m : Message) (question : Option Query) (datagram : D)
    (old : Asker L) (outcome : Outcome) (new : Asker L) : Type 0 where
  pub encodes : carrier.encodes m datagram
  pub result : Result (Unit {0}) LinkError
  pub link : L
  pub sends : calls.sends old.link datagram result link
  pub after : AfterSending carrier calls m.metadata.id question result (record old { link = link }) outcome new

-- ---- the stream

-- a reply over a stream is not used if it is truncated, too: F6
abbrev pub stream_outcome : DnsResponse → Outcome
stream_outcome response = if response.message.metadata.truncation then Err (net.Link fault.Truncated) else Ok response

-- The reply over the stream to the question, or F6 if it is truncated, too; F7 if it does not decode; F8 if it is another
-- message. There may be no memory to decode it.
pub data IsStreamReply {D : Type 0} (carrier : Carrier D) (id : ℕ) (q : Query) (reply : D) (outcome : Outcome) : Type 0 where
  matching : (response : DnsResponse) → carrier.responds reply response → matches id (Some q) response.message ≡ true
      → outcome ≡ stream_outcome response → IsStreamReply carrier id q reply outcome
  unreadable : ((m : Message) → ¬ carrier.decodes reply m) → outcome ≡ Err (net.Link fault.StreamUnreadable)
      → IsStreamReply carrier id q reply outcome
  other : (m : Message) → carrier.decodes reply m → matches id (Some q) m ≡ false → outcome ≡ Err (net.Link fault.StreamMismatch)
      → IsStreamReply carrier id q reply outcome
  undecoded : outcome ≡ Err net.Memory → IsStreamReply carrier id q reply outcome

-- the stream replied, or failed: F5
abbrev pub AfterStream : {D : Type 0} → Carrier D → ℕ → Query → Result D LinkError → Outcome → Type 0
AfterStream carrier id q (Ok reply) outcome = IsStreamReply carrier id q reply outcome
AfterStream carrier id q (Err Failed) outcome = outcome ≡ Err (net.Link fault.StreamFailed)
AfterStream carrier id q (Err Memory) outcome = outcome ≡ Err net.Memory

-- the request is asked again over a stream
pub record IsStreamed {L D : Type 0} (carrier : Carrier D) (calls : Calls L D) (id : ℕ) (q : Query) (datagram : D) (mid : Asker L)
    (outcome : Outcome) (new : Asker L) : Type 0 where
  pub result : Result D LinkError
  pub link : L
  pub streams : calls.streams mid.link datagram result link
  pub after : AfterStream carrier id q result outcome
  pub new_is : new ≡ record mid { link = link }

-- A reply is the outcome, whatever its code. If it is truncated, the request is asked again over a stream.
abbrev pub AfterReply : {L D : Type 0} → Carrier D → Calls L D → ℕ → Query → D → Bool → DnsResponse → Asker L → Outcome → Asker L
    → Type 0
AfterReply carrier calls id q datagram false response mid outcome new = (outcome ≡ Ok response) × (new ≡ mid)
AfterReply carrier calls id q datagram true response mid outcome new = IsStreamed carrier calls id q datagram mid outcome new

-- a reply was received, or waiting for it ended in a fault, which is the outcome
abbrev pub AfterWaiting : {L D : Type 0} → Carrier D → Calls L D → ℕ → Query → D → Outcome → Asker L → Outcome → Asker L → Type 0
AfterWaiting carrier calls id q datagram (Ok response) mid outcome new =
    AfterReply carrier calls id q datagram response.message.metadata.truncation response mid outcome new
AfterWaiting carrier calls id q datagram (Err error) mid outcome new = (outcome ≡ Err error) × (new ≡ mid)

-- ---- one question

-- the request is sent under its id
pub record IsAsked {L D : Type 0} (carrier : Carrier D) (calls : Calls L D) (m : Message) (q : Query) (old : Asker L)
    (outcome : Outcome) (new : Asker L) : Type 0 where
  pub datagram : D
  pub waited : Outcome
  pub mid : Asker L
  pub sent : IsSent carrier calls m (Some q) datagram old waited mid
  pub ends : AfterWaiting carrier calls m.metadata.id q datagram waited mid outcome new

-- The next id is drawn, if one is left, or else F9, and the request is sent under it. There may be no memory for the question,
-- and none for the datagram.
abbrev pub AskUnder : {L D : Type 0} → Carrier D → Calls L D → Option ℕ → Message → Query → Asker L → Outcome → Asker L → Type 0
AskUnder carrier calls None m q old outcome new = (outcome ≡ Err (net.Link fault.NoId)) × (new ≡ old)
AskUnder carrier calls (Some id) m q old outcome new =
    ((outcome ≡ Err net.Memory) × ((new ≡ old) ⊎ (new ≡ draw id q old)))
    ⊎ IsAsked carrier calls (with_id id m) q (draw id q old) outcome new

-- A request that is no question is not supported, and nothing happens.
pub record IsUnsupported {L : Type 0} (m : Message) (old : Asker L) (outcome : Outcome) (new : Asker L) : Type 0 where
  pub no_question : (q : Query) → ¬ IsQuestion m q
  pub outcome_is : outcome ≡ Err net.Unsupported
  pub same : new ≡ old

-- any other is asked under the next id of the list
pub record IsSupported {L D : Type 0} (carrier : Carrier D) (calls : Calls L D) (m : Message) (old : Asker L) (outcome : Outcome)
    (new : Asker L) : Type 0 where
  pub question : Query
  pub asks : IsQuestion m question
  pub asked : AskUnder carrier calls (slice_get old.ids (length old.sent)) m question old outcome new

-- the number of faults after an outcome
abbrev pub faults_after : {X : Type 0} → Result X NetError → ℕ → ℕ
faults_after (Err (net.Link error)) faults = one_more faults
faults_after outcome faults = faults

-- the fault of an outcome is counted, if it is one
abbrev pub count_fault : {L X : Type 0} → Result X NetError → Asker L → Asker L
count_fault outcome asker = record asker { faults = faults_after outcome asker.faults }

-- One request to ask a question, its outcome, and the asker afterwards, with the fault counted.
pub record Ask {L D : Type 0} (carrier : Carrier D) (calls : Calls L D) (m : Message) (old : Asker L) (outcome : Outcome)
    (new : Asker L) : Type 0 where
  pub uncounted : Asker L
  pub asked : IsUnsupported m old outcome uncounted ⊎ IsSupported carrier calls m old outcome uncounted
  pub counted : new ≡ count_fault outcome uncounted
