use Rattle.std.proofs.Common.{sym}
use Rattle.dns_names.proofs.name.Name.label_count.Goals as goal

pub returns-clause-value : goal.returns-clause-value
returns-clause-value c = rw (← c.self.view_is) (sym c.self.invariant.many)

pub returns-clause-labels : goal.returns-clause-labels
returns-clause-labels c = rw (← c.self.view_is) c.self.invariant.are
