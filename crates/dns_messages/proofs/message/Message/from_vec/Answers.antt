use Rattle.std.proofs.Common.{rules, IfOk}
use Rattle.std.specs.Prelude.{Result, Ok, Err}
use Rattle.dns_wire.specs.declared.error.DecodeError.{DecodeError}
use Rattle.dns_messages.specs.declared.message.Message.{Message}
use Rattle.dns_messages.specs.Sound.{IsSound}
use Rattle.dns_messages.specs.Grammar.{ReadsMessage, short_header}
use Rattle.dns_messages.proofs.BareLaws.{not_short}
use Rattle.dns_messages.proofs.message.Message.from_vec.Goals as goal

pub returns-then-bytes-lt-HEADER_LEN-clause-refused : goal.returns-then-bytes-lt-HEADER_LEN-clause-refused
returns-then-bytes-lt-HEADER_LEN-clause-refused c = λ other. short_header (search rules)

-- what holds of a message that is decoded
decoded : (result : Result Message DecodeError) (P Q : Message → Type 0) → ((m : Message) → P m → Q m) → IfOk result P → IfOk result Q
decoded (Ok m) P Q f h = f m h
decoded (Err error) P Q f h = h

pub returns-clause-sound : goal.returns-clause-sound
returns-clause-sound c = decoded c.read_message.result (ReadsMessage c.args.bytes.now) IsSound (λ m r. c.decoded_messages_are_sound.ensures c.args.bytes.now m r) c.read_message.ensures.read

pub returns-then-bytes-lt-HEADER_LEN-clause-decided : goal.returns-then-bytes-lt-HEADER_LEN-clause-decided
returns-then-bytes-lt-HEADER_LEN-clause-decided c = λ header bare. absurd (not_short c.args.bytes.now header bare (search rules))
