use Rattle.dns_wire.specs.Encoder.{max_message_len}
use Rattle.dns_messages.specs.Cut.{cut}
use Rattle.dns_messages.specs.Message.{truncated}
use Rattle.dns_faults.proofs.TruncatedLaws.{cut-has-none, truncated-sound}
use Rattle.dns_faults.proofs.laws.truncated_replies_have_no_records.Goals as goal

pub returns : goal.returns
returns c = λ m reply bytes reads encodes.
    (cut max_message_len (truncated m), encodes.decodes (truncated-sound m (c.decoded_messages_are_sound.ensures reply m reads)), cut-has-none m)
