use Rattle.std.proofs.Common.{◌&&◌, ◌==◌, length}
use Rattle.dns_zone.proofs.DifferenceLaws.{no_change}
use Rattle.dns_zone.proofs.zone.Zone.no_change.Goals as goal

pub returns-clause-change : goal.returns-clause-change
returns-clause-change c = no_change c.args.self.now.rows c.new.result c.new.ensures.deleted c.new.ensures.added

pub returns-clause-empty : goal.returns-clause-empty
returns-clause-empty c = λ i. (length (c.new.ensures.deleted i) == 0) && (length (c.new.ensures.added i) == 0)
