use Rattle.std.proofs.Common.{◌≡◌, false, take, drop}
use Rattle.dns_authority.proofs.steps.redirection.first_labels.Given as goal

abbrev pub invariant-loop : goal.invariant-loop
invariant-loop l = record {
  front : l.front ≡ record { is_fqdn = false; labels = take l.counter l.name.labels };
  left : l.labels ≡ drop l.counter l.name.labels;
  can_next : (goal.iterator-loop).can_next l.labels;
  finite : (goal.iterator-loop).is_finite l.labels;
}
