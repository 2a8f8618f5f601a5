use Rattle.std.proofs.Common.{◌≡◌, ◌++◌, length}
use Rattle.dns_updates.specs.Keys.{owner_code}
use Rattle.dns_server.proofs.zone_table.origin_key.OriginKey.of.Given as goal

abbrev pub invariant-loop-label : goal.invariant-loop-label
invariant-loop-label l = owner_code l.origin.labels ≡ l.key ++ owner_code l.labels

abbrev pub decreases-loop-label : goal.decreases-loop-label
decreases-loop-label l = length l.labels
