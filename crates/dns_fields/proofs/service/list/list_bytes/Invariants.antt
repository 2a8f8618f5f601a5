use Rattle.std.proofs.Common.{◌≡◌, false, [], drop}
use Rattle.dns_fields.specs.service.List.{list_bytes}
use Rattle.dns_fields.proofs.service.list.list_bytes.Given as goal

-- the octets that are left complete the list
abbrev pub invariant-loop-octet : goal.invariant-loop-octet
invariant-loop-octet l = list_bytes l.kind l.bytes.items l.item.items l.is_escaped (drop l.octet-index l.octets) ≡ list_bytes l.kind [] [] false l.octets
