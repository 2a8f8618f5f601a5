-- Links: what they carry, and what their calls may do.
use Rattle.std.specs.Prelude.{◌≡◌, ◌<◌, ◌≤◌, ◌^◌, ◌-◌, ◌⊎◌, length, List, ℕ, Option, Some, Result, Ok, Err, option_map}
use Rattle.std.specs.Global.{Vec}
use Rattle.dns_messages.specs.declared.header.Metadata.{Metadata}
use Rattle.dns_messages.specs.declared.message.Message.{Message}
use Rattle.dns_messages.specs.declared.response.DnsResponse.{DnsResponse}
use Rattle.dns_messages.specs.Header.{peeked_metadata}
use Rattle.dns_messages.specs.Cut.{cut_form}
use Rattle.dns_messages.specs.Grammar.{ReadsMessage}
use Rattle.stub_link.specs.declared.link.LinkError.{LinkError}

-- ---- results of calls, by their bytes

-- a receive, by the bytes of its datagram
abbrev pub datagram_of : Result (Option (Vec ℕ)) LinkError → Result (Option (List ℕ)) LinkError
datagram_of (Ok received) = Ok (option_map (λ bytes. bytes.items) received)
datagram_of (Err error) = Err error

-- a reply over a stream, by its bytes
abbrev pub stream_reply_of : Result (Vec ℕ) LinkError → Result (List ℕ) LinkError
stream_reply_of (Ok bytes) = Ok bytes.items
stream_reply_of (Err error) = Err error

-- a count of failures rose, or is at its greatest
abbrev pub Rises : ℕ → ℕ → Type 0
Rises old new = (old < new) ⊎ (new ≡ 2 ^ 64 - 1)

-- ---- calls

-- The calls of a link that carries datagrams of a kind: from a state, a call may have this result and lead to that state.
pub record Calls (L D : Type 0) : Type 1 where
  pub sends : L → D → Result (Unit {0}) LinkError → L → Type 0
  pub receives : L → Result (Option D) LinkError → L → Type 0
  pub streams : L → D → Result D LinkError → L → Type 0

-- the calls of a link by its three relations
abbrev pub calls_of : {L D : Type 0} → (L → D → Result (Unit {0}) LinkError → L → Type 0)
    → (L → Result (Option D) LinkError → L → Type 0) → (L → D → Result D LinkError → L → Type 0) → Calls L D
calls_of sends receives streams = record { sends = sends; receives = receives; streams = streams }

-- ---- datagrams

-- A kind of datagrams: how a message is encoded, which message and response a datagram decodes to, and the header with which it
-- begins.
pub record Carrier (D : Type 0) : Type 1 where
  pub encodes : Message → D → Type 0
  pub decodes : D → Message → Type 0
  pub responds : D → DnsResponse → Type 0
  pub header : D → Option Metadata

-- bytes encode a message whole, within the maximum size of a message
pub record Encodes (m : Message) (bytes : List ℕ) : Type 0 where
  pub form_is : bytes ≡ cut_form 65535 m
  pub decodes : ReadsMessage bytes m
  pub within : length bytes ≤ 65535

-- bytes decode to the message of a response, which keeps them
pub record Decodes (bytes : List ℕ) (response : DnsResponse) : Type 0 where
  pub message : ReadsMessage bytes response.message
  pub buffer : response.buffer.items ≡ bytes

-- datagrams of bytes, as a link carries them
abbrev pub wire : Carrier (List ℕ)
wire = record {
  encodes = λ m bytes. Encodes m bytes;
  decodes = λ bytes m. ReadsMessage bytes m;
  responds = λ bytes response. Decodes bytes response;
  header = peeked_metadata;
}

-- a response has this message, and keeps bytes that decode to it
pub record IsResponse (datagram : Message) (response : DnsResponse) : Type 0 where
  pub message : response.message ≡ datagram
  pub reads : ReadsMessage response.buffer.items response.message

-- datagrams without bytes: the messages
abbrev pub messages : Carrier Message
messages = record {
  encodes = λ m datagram. datagram ≡ m;
  decodes = λ datagram m. m ≡ datagram;
  responds = λ datagram response. IsResponse datagram response;
  header = λ datagram. Some datagram.metadata;
}
