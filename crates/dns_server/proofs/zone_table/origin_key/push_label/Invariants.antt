use Rattle.std.proofs.Common.{◌≡◌, ◌++◌, map, take}
use Rattle.dns_updates.specs.Keys.{byte_code}
use Rattle.dns_server.proofs.zone_table.origin_key.push_label.Given as goal

abbrev pub invariant-loop-byte : goal.invariant-loop-byte
invariant-loop-byte l = l.bytes.items ≡ l.initial.bytes.items ++ map byte_code (take l.byte-index l.label)
