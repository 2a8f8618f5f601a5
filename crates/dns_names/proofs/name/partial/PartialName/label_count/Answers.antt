use Rattle.std.proofs.Common.{sym}
use Rattle.dns_names.proofs.name.partial.PartialName.label_count.Goals as goal

pub returns : goal.returns
returns c = rw (← c.self.view_is) (sym c.self.invariant.wire.many)
