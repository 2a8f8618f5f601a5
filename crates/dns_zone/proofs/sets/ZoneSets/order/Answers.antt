use Rattle.std.proofs.Common.{subst}
use Rattle.dns_zone.specs.Sets.{AreInOrder}
use Rattle.dns_zone.proofs.SetLaws.{in_order}
use Rattle.dns_zone.proofs.sets.ZoneSets.order.Goals as goal

pub returns : goal.returns
returns c = subst AreInOrder c.self.view_is (in_order c.self.inside.map.entries c.self.invariant c.len.ensures.ordered)
