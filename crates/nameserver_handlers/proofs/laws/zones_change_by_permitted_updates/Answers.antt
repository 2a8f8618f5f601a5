use Rattle.nameserver_handlers.specs.Handling.{keeping}
use Rattle.nameserver_handlers.proofs.HistoryLaws.{zones_stay}
use Rattle.nameserver_handlers.proofs.laws.zones_change_by_permitted_updates.Goals as goal

pub returns : goal.returns
returns g c = λ world new old after acts leads without none. zones_stay g.S.Storage.performs _ keeping world new old after acts leads without none
