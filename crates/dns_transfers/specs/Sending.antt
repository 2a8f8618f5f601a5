-- How the messages of a transfer are made, one after another (RFC 5936 section 2.2).
use Rattle.std.specs.Prelude.{◌≡◌, ◌<◌, ◌-◌, ◌++◌, length, List, [], ◌∷◌, ℕ, Option, Some, None}
use Rattle.dns_messages.specs.declared.message.Message.{Message}
use Rattle.dns_messages.specs.Cut.{uncompressed_len}
use Rattle.dns_messages.specs.Encoding.{Encodes}
use Rattle.dns_messages.specs.Grammar.{ReadsMessage}
use Rattle.dns_messages.specs.Message.{empty_message}
use Rattle.dns_records.specs.Record.{Record}
use Rattle.dns_transfers.specs.declared.transfer.Transfer.{Transfer}
use Rattle.dns_transfers.specs.Message.{edns_of, first_message, with_answers}
use Rattle.dns_transfers.specs.Records.{front, left_of}

-- a transfer under way: the next message without its records, and the records that are left
pub record Sending : Type 0 where
  pub message : Message
  pub records : List Record

-- a transfer, from its fields
abbrev pub sending : {S : Type 0} → (S → List Record) → Transfer S → Sending
sending left t = record {
  message = record (empty_message t.metadata) { queries = t.queries.now; edns = edns_of t.dnssec_ok };
  records = left_of left t.records;
}

-- the reply to a request with these records, of which no message was made
abbrev pub start : Message → List Record → Sending
start request records = record { message = first_message request; records = records }

-- how many bytes the records of the next message may have without compression
abbrev pub room_of : Sending → ℕ
room_of s = 65535 - uncompressed_len s.message

-- the records of the next message: as many as have room
abbrev pub next_records : Sending → List Record
next_records s = front (room_of s) s.records

-- The next message is made: its records are at the front of those that were left, and there is at least one. Only the first
-- message has a question.
pub record SendsNext (old : Sending) (bytes : List ℕ) (new : Sending) : Type 0 where
  pub some : 0 < length (next_records old)
  pub left : old.records ≡ next_records old ++ new.records
  pub message : new.message ≡ record old.message { queries = [] }
  pub encodes : Encodes 65535 (with_answers old.message (next_records old)) bytes

-- the next message is made, or no record is left
abbrev pub Sends : Sending → Option (List ℕ) → Sending → Type 0
Sends old None new = (old.records ≡ []) × (new ≡ old)
Sends old (Some bytes) new = SendsNext old bytes new

-- the next record has no room in a message
pub record IsStuck (s : Sending) : Type 0 where
  pub none : next_records s ≡ []
  pub some : 0 < length s.records

-- messages are made, one after another, until the next record has no room
abbrev pub GetsStuck : Sending → List (List ℕ) → Type 0
GetsStuck s [] = IsStuck s
GetsStuck s (bytes ∷ more) = (next : Sending) × (SendsNext s bytes next × GetsStuck next more)

-- a record has no room in a message, after as many messages as those before it need
abbrev pub CannotSend : Sending → Type 0
CannotSend s = (messages : List (List ℕ)) × GetsStuck s messages

-- messages are made, one after another, until no record is left
abbrev pub SendsAll : Sending → List (List ℕ) → Type 0
SendsAll s [] = s.records ≡ []
SendsAll s (bytes ∷ more) = (next : Sending) × (SendsNext s bytes next × SendsAll next more)

-- messages are read, each as one of these
abbrev pub AreRead : List (List ℕ) → List Message → Type 0
AreRead [] [] = Unit {0}
AreRead [] (m ∷ ms) = ⊥
AreRead (bytes ∷ more) [] = ⊥
AreRead (bytes ∷ more) (m ∷ ms) = ReadsMessage bytes m × AreRead more ms
