-- Queries.
use Rattle.std.specs.Prelude.{◌≡◌, if◌then◌else◌, IsOkAnd, Bool, List, [], ◌∷◌, ℕ, Some, None, Err}
use Rattle.api.specs.buffer.Arguments.{name_in}
use Rattle.api.specs.declared.buffer.refusal.Refusal.{Refusal}
use Rattle.api.specs.declared.buffer.refusal.Refusal.TheVariants as refusal
use Rattle.dns_wire.specs.codes.RecordType.{type_of}
use Rattle.dns_wire.specs.declared.codes.dns_class.DNSClass.TheVariants.{IN}
use Rattle.dns_messages.specs.Encoding.{Encodes, IsTooLong}
use Rattle.dns_messages.specs.Header.{new_metadata}
use Rattle.dns_messages.specs.declared.message.Message.{Message}
use Rattle.dns_messages.specs.declared.message_type.MessageType.TheVariants as kinds
use Rattle.dns_messages.specs.declared.op_code.OpCode.TheVariants as ops
use Rattle.dns_names.specs.Name.{DomainName}
use Rattle.dns_updates.specs.Builders.{default_edns}
use Rattle.api.specs.messages.Messages.{max_len}

-- the query for the records of a name and a type, by its number, in the class IN
abbrev pub question_message : ℕ → DomainName → ℕ → Bool → Bool → Message
question_message id name query_type recursion_desired use_edns = record {
  metadata = record (new_metadata id kinds.Query ops.Query) { recursion_desired = recursion_desired };
  queries = record { name = name; query_type = type_of query_type; query_class = IN } ∷ [];
  answers = [];
  authorities = [];
  additionals = [];
  edns = if use_edns then Some default_edns else None;
  signature = None;
}

-- the bytes of the query for the name that a text is
abbrev pub AsksQuestion : ℕ → List ℕ → ℕ → Bool → Bool → List ℕ → Type 0
AsksQuestion id text query_type recursion_desired use_edns bytes =
    IsOkAnd (name_in text) (λ name. Encodes max_len (question_message id name query_type recursion_desired use_edns) bytes)

-- why there is no query
abbrev pub IsUnasked : ℕ → List ℕ → ℕ → Bool → Bool → Refusal → Type 0
IsUnasked id text query_type recursion_desired use_edns refusal.Name = name_in text ≡ Err refusal.Name
IsUnasked id text query_type recursion_desired use_edns refusal.TooLong =
    IsOkAnd (name_in text) (λ name. IsTooLong max_len (question_message id name query_type recursion_desired use_edns))
IsUnasked id text query_type recursion_desired use_edns refusal.Memory = Unit {0}
IsUnasked id text query_type recursion_desired use_edns other = ⊥
