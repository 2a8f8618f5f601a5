-- Truncated replies.
use Rattle.std.proofs.Common.{refl}
use Rattle.dns_wire.specs.Encoder.{max_message_len}
use Rattle.dns_messages.specs.declared.message.Message.{Message}
use Rattle.dns_messages.specs.Cut.{cut}
use Rattle.dns_messages.specs.Message.{truncated}
use Rattle.dns_messages.specs.Sound.{IsSound}
use Rattle.dns_faults.specs.Truncated.{HasNoRecords}

-- a message that decodes to itself does so without its records
pub truncated-sound : (m : Message) → IsSound m → IsSound (truncated m)
truncated-sound m s = record {
  metadata = record {
    id_fits = s.metadata.id_fits;
    op_fits = s.metadata.op_fits;
    op_named = s.metadata.op_named;
    code_fits = s.metadata.code_fits;
    code_named = s.metadata.code_named;
  };
  queries = s.queries;
  answers = tt;
  authorities = tt;
  additionals = tt;
  edns = s.edns;
  extended = s.extended;
  signature = tt;
}

-- what is left of it has no records
pub cut-has-none : (m : Message) → HasNoRecords m (cut max_message_len (truncated m))
cut-has-none m = record { truncation = refl; queries = refl; answers = refl; authorities = refl; additionals = refl }
