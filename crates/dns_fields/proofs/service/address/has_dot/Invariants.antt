use Rattle.std.proofs.Common.{◌≡◌, drop}
use Rattle.dns_fields.specs.service.Address.{has_dot}
use Rattle.dns_fields.proofs.service.address.has_dot.Given as goal

-- no dot up to here
abbrev pub invariant-loop-c : goal.invariant-loop-c
invariant-loop-c l = has_dot (drop l.c-index l.text) ≡ has_dot l.text
