use Rattle.std.proofs.Common.{◌≡◌, drop}
use Rattle.dns_fields.specs.service.Address.{elision}
use Rattle.dns_fields.proofs.service.address.elision.Given as goal

-- no `::` up to here
abbrev pub invariant-loop-place : goal.invariant-loop-place
invariant-loop-place l = elision l.place (drop l.place l.text) ≡ elision 0 l.text
