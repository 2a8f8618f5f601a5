use Rattle.dns_sockets.proofs.SentLaws.{given}
use Rattle.dns_sockets.proofs.laws.every_datagram_is_given.Goals as goal

pub returns : goal.returns
returns c = λ new before rest socket bytes peer earns. given new before rest socket bytes peer earns
