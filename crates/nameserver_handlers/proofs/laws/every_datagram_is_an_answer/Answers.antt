use Rattle.nameserver_handlers.proofs.HistoryLaws.{sent_is_answer}
use Rattle.nameserver_handlers.proofs.laws.every_datagram_is_an_answer.Goals as goal

pub returns : goal.returns
returns g c = λ world new old after before rest socket bytes peer left leads earns. sent_is_answer _ _ world new old after before rest socket bytes peer left leads earns
