use Rattle.dns_message_bytes.proofs.RequestLaws.{request_is_message}
use Rattle.dns_message_bytes.proofs.view.laws.requests_are_messages.Goals as goal

pub returns : goal.returns
returns c = λ bytes m reads. request_is_message bytes m reads
