use Rattle.dns_message_bytes.specs.view.MessageView.{no_header}
use Rattle.dns_message_bytes.proofs.view.message_view.MessageView.of.Goals as goal

pub returns-then-bytes-lt-HEADER_LEN-clause-refused : goal.returns-then-bytes-lt-HEADER_LEN-clause-refused
returns-then-bytes-lt-HEADER_LEN-clause-refused c = no_header c.if-bytes-lt-HEADER_LEN.true
