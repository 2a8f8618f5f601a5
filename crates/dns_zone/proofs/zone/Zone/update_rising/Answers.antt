use Rattle.dns_zone.proofs.RisingLaws.{none_risen}
use Rattle.dns_zone.proofs.zone.Zone.update_rising.Goals as goal

pub returns-in_default-clause-ok : goal.returns-in_default-clause-ok
returns-in_default-clause-ok c =
    none_risen c.args.self.now c.args.update.now c.update_code.result c.update_code.ensures c.in_default.not-NoError
