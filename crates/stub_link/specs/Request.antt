-- Requests: questions (RFC 1035 section 4.1) and updates (RFC 2136 section 2) that can be sent.
use Rattle.std.specs.Prelude.{◌≡◌, ◌≤◌, [], ◌∷◌, ℕ}
use Rattle.dns_messages.specs.declared.message_type.MessageType.TheVariants as kinds
use Rattle.dns_messages.specs.declared.op_code.OpCode.TheVariants as ops
use Rattle.dns_messages.specs.declared.query.Query.{Query}
use Rattle.dns_messages.specs.declared.message.Message.{Message}
use Rattle.dns_messages.specs.Cut.{uncompressed_len}
use Rattle.dns_messages.specs.Sound.{IsSound}

-- A message that is sent whole: it is sound, and has at most 65,535 bytes without compression (RFC 1035 section 4.2.2).
pub record IsWhole (m : Message) : Type 0 where
  pub sound : IsSound m
  pub fits : uncompressed_len m ≤ 65535

-- a request to ask a question: a query with this one question
pub record IsQuestion (m : Message) (q : Query) : Type 0 where
  pub whole : IsWhole m
  pub kind : m.metadata.message_type ≡ kinds.Query
  pub op_code : m.metadata.op_code ≡ ops.Query
  pub only : m.queries ≡ q ∷ []

-- a sound request to update a zone
pub record IsSoundUpdate (m : Message) : Type 0 where
  pub sound : IsSound m
  pub kind : m.metadata.message_type ≡ kinds.Query
  pub op_code : m.metadata.op_code ≡ ops.Update

-- a request to update a zone
pub record IsUpdate (m : Message) : Type 0 where
  pub update : IsSoundUpdate m
  pub fits : uncompressed_len m ≤ 65535

-- an update is sent whole
abbrev pub whole_update : (m : Message) → IsUpdate m → IsWhole m
whole_update m u = record { sound = u.update.sound; fits = u.fits }

-- a message with this id (RFC 1035 section 4.1.1)
abbrev pub with_id : ℕ → Message → Message
with_id id m = record m { metadata = record m.metadata { id = id } }
