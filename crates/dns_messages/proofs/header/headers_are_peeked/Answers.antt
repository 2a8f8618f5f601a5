use Rattle.dns_messages.proofs.HeaderLaws.{peeked}
use Rattle.dns_messages.proofs.header.headers_are_peeked.Goals as goal

pub returns : goal.returns
returns c = λ bytes header there. peeked bytes header there
