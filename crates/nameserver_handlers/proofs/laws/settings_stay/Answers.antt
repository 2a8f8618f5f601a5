use Rattle.nameserver_handlers.specs.Handling.{keeping}
use Rattle.nameserver_handlers.proofs.HistoryLaws.{settings_stay}
use Rattle.nameserver_handlers.proofs.laws.settings_stay.Goals as goal

pub returns : goal.returns
returns g c = λ world new old after acts leads. settings_stay g.S.Storage.performs _ keeping world new old after acts leads
