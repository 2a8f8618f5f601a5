use Rattle.std.proofs.Common.{◌≡◌, ◌≤◌, drop, length}
use Rattle.dns_server.specs.SetTtls.{restated}
use Rattle.dns_server.specs.internal.SetTtls.{AreLastTtls}
use Rattle.dns_server.proofs.server.set_ttls.restated.Given as goal

abbrev pub invariant-loop-end : goal.invariant-loop-end
invariant-loop-end l = (l.end ≤ length l.updates) × ((l.records.items ≡ restated l.zone.rows (drop l.end l.updates)) × AreLastTtls (drop l.end l.updates) l.ttls)

abbrev pub decreases-loop-end : goal.decreases-loop-end
decreases-loop-end l = l.end
