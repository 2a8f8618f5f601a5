use Rattle.std.proofs.Common.{◌≡◌, ◌++◌, [], drop, option_map}
use Rattle.dns_fields.specs.service.Address.{parts_bytes}
use Rattle.dns_fields.proofs.service.address.parts_bytes.Given as goal

-- the parts that are left complete the bytes
abbrev pub invariant-loop-c : goal.invariant-loop-c
invariant-loop-c l = option_map (λ more. l.bytes.items ++ more) (parts_bytes l.kind l.part.items (drop l.c-index l.text)) ≡ parts_bytes l.kind [] l.text
