use Rattle.std.proofs.Common.{List, ℕ, Err, ap, subst}
use Rattle.dns_wire.specs.Encoder.{max_message_len}
use Rattle.dns_messages.specs.declared.message.Message.{Message}
use Rattle.dns_messages.specs.Encoding.{Encodes, IsTooLong}
use Rattle.dns_messages.specs.Grammar.{ReadsMessage, RefusesMessage}
use Rattle.dns_faults.specs.Truncated.{is_truncated, is_unreadable, is_too_long}
use Rattle.dns_faults.proofs.truncated.truncated_reply.Goals as goal

pub returns-in_default : goal.returns-in_default
returns-in_default c =
    is_unreadable c.in-Err.error (subst (λ (bytes : List ℕ). RefusesMessage bytes c.in-Err.error) c.as_slice.ensures.value (c.in-Err.ensures.refused c.in_default.not-Memory))

pub returns-in-Ok-to_vec : goal.returns-in-Ok-to_vec
returns-in-Ok-to_vec c =
    is_truncated c.in-Ok.message (subst (λ (bytes : List ℕ). ReadsMessage bytes c.in-Ok.message) c.as_slice.ensures.value c.in-Ok.ensures.read)
    (subst (λ (m : Message). Encodes max_message_len m c.in-Ok-to_vec.bytes.items) c.in_ok-truncated.ensures.ok c.in-Ok-to_vec.ensures.encodes)

pub returns-in-MaxBufferSizeExceeded : goal.returns-in-MaxBufferSizeExceeded
returns-in-MaxBufferSizeExceeded c =
    is_too_long c.in-Ok.message (subst (λ (bytes : List ℕ). ReadsMessage bytes c.in-Ok.message) c.as_slice.ensures.value c.in-Ok.ensures.read)
    (subst (λ (m : Message). IsTooLong max_message_len m) c.in_ok-truncated.ensures.ok (c.in-Err-to_vec.ensures.full (ap Err c.in-MaxBufferSizeExceeded.is)))
