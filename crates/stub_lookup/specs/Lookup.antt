-- What a lookup found: a response, and how long it is valid.
use Rattle.std.specs.Prelude.{◌++◌, List, [], ◌∷◌, ℕ, min}
use Rattle.dns_wire.specs.declared.codes.dns_class.DNSClass.TheVariants.{IN}
use Rattle.dns_data.specs.declared.rdata.RData.{RData}
use Rattle.dns_records.specs.Record.{Record}
use Rattle.dns_messages.specs.Message.{clear_metadata, empty_message}
use Rattle.dns_messages.specs.declared.message_type.MessageType.TheVariants as kinds
use Rattle.dns_messages.specs.declared.op_code.OpCode.TheVariants as ops
use Rattle.dns_messages.specs.declared.query.Query.{Query}
use Rattle.dns_messages.specs.declared.message.Message.{Message}
use Rattle.dns_messages.specs.declared.response_code.ResponseCode.TheVariants as response_codes

-- a response, and the last moment at which it is valid, in seconds
pub record LookupContent : Type 0 where
  pub message : Message
  pub valid_until : ℕ

-- the TTL of records that a resolver makes itself, in seconds: one day
abbrev pub max_ttl : ℕ
max_ttl = 86400

-- a response of id 0 without flags, to one question
abbrev pub response_to : Query → List Record → Message
response_to query answers =
    record (empty_message (clear_metadata 0 kinds.Response ops.Query response_codes.NoError)) {
      queries = query ∷ [];
      answers = answers;
    }

-- a response to one question that is valid until a moment
abbrev pub lookup_of : Query → List Record → ℕ → LookupContent
lookup_of query answers valid_until = record
    { message = response_to query answers; valid_until = valid_until }

-- a record of class IN at the name of a question, with a TTL of a day
abbrev pub record_for : Query → RData → Record
record_for query rdata = record { name = query.name; dns_class = IN; ttl = max_ttl; rdata = rdata }

-- the header and the questions of the first, and the records of both, section by section
abbrev pub joined_messages : Message → Message → Message
joined_messages first second = record first {
  answers = first.answers ++ second.answers;
  authorities = first.authorities ++ second.authorities;
  additionals = first.additionals ++ second.additionals;
}

-- two lookups joined, which are valid as long as both are
abbrev pub joined : LookupContent → LookupContent → LookupContent
joined first second = record {
  message = joined_messages first.message second.message;
  valid_until = min first.valid_until second.valid_until;
}
