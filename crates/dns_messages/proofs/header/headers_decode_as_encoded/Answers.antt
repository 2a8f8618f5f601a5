use Rattle.dns_messages.proofs.HeaderLaws.{header_again}
use Rattle.dns_messages.proofs.header.headers_decode_as_encoded.Goals as goal

pub returns : goal.returns
returns c = λ bytes place end h sound there. header_again bytes place end h sound there
