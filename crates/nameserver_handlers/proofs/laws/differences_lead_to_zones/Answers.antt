use Rattle.nameserver_handlers.proofs.HandlingLaws.{served_known}
use Rattle.nameserver_handlers.proofs.laws.differences_lead_to_zones.Goals as goal

pub returns : goal.returns
returns g c = λ old new rs replies serves. served_known g.S.Storage.performs old new rs replies serves
