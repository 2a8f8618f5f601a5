use Rattle.std.proofs.Common.{◌≡◌, ◌-◌}
use Rattle.dns_names.specs.Build.{root_name}
use Rattle.dns_authority.specs.steps.Redirection.{max_labels, name_along}
use Rattle.dns_authority.proofs.steps.redirection.name_of_bytes.Given as goal

abbrev pub invariant-loop : goal.invariant-loop
invariant-loop l = name_along (max_labels - l.counter) l.name l.rest ≡ name_along max_labels root_name l.bytes
