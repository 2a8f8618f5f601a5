use Rattle.std.proofs.Common.{◌≡◌, ◌≤◌, drop}
use Rattle.dns_fields.specs.service.Address.{last_group}
use Rattle.dns_fields.proofs.service.address.last_group.Given as goal

-- the last colon up to here
abbrev pub invariant-loop-c : goal.invariant-loop-c
invariant-loop-c l = record {
  completes : last_group l.start l.place (drop l.c-index l.text) ≡ last_group 0 0 l.text;
  place : l.place ≡ l.c-index;
  within : l.start ≤ l.c-index;
}
