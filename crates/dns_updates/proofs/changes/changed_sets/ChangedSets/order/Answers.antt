use Rattle.std.proofs.Common.{subst}
use Rattle.dns_updates.specs.Changes.{AreInOrder}
use Rattle.dns_updates.proofs.ChangedLaws.{in_order}
use Rattle.dns_updates.proofs.changes.changed_sets.ChangedSets.order.Goals as goal

pub returns : goal.returns
returns c = subst AreInOrder c.self.view_is (in_order c.self.inside.map.entries c.self.invariant c.len.ensures.ordered)
