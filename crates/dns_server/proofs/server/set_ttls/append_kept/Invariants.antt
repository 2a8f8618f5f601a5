use Rattle.std.proofs.Common.{◌≡◌, ◌++◌, map, take}
use Rattle.dns_server.specs.internal.SetTtls.{with_kept_ttl}
use Rattle.dns_server.proofs.server.set_ttls.append_kept.Given as goal

abbrev pub invariant-loop-update : goal.invariant-loop-update
invariant-loop-update l = l.records.items ≡ l.fn.records.items ++ map (with_kept_ttl l.ttls) (take l.update-index l.updates)
