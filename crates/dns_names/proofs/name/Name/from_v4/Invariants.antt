use Rattle.std.proofs.Common.{◌≡◌, ◌≤◌, ◌+◌, ◌-◌, ◌*◌, ◌∷◌, [], true, drop, length}
use Rattle.dns_wire.specs.Name.{name_len}
use Rattle.dns_names.specs.Reverse.{in_reverse, decimal_label}
use Rattle.dns_names.proofs.name.Name.from_v4.Given as goal

-- the labels of the last octets
abbrev pub invariant-loop-index : goal.invariant-loop-index
invariant-loop-index l = record {
  labels : l.name.labels ≡ in_reverse (λ n. decimal_label n ∷ []) (drop (4 - l.index) l.octets);
  is_fqdn : l.name.is_fqdn ≡ true;
  short : name_len l.name.labels ≤ 1 + 4 * l.index;
  few : length l.name.labels ≤ l.index;
}
