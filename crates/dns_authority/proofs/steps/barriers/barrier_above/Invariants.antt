use Rattle.std.proofs.Common.{◌≡◌, ◌-◌, length, map}
use Rattle.std.specs.List.{find, range_with_len}
use Rattle.dns_names.specs.Build.{trim_to}
use Rattle.dns_authority.specs.steps.Barrier.{barrier_above, is_barrier}
use Rattle.dns_authority.proofs.steps.barriers.barrier_above.Given as goal

abbrev pub invariant-loop-kept : goal.invariant-loop-kept
invariant-loop-kept l =
    find (is_barrier l.zone) (map (trim_to l.name) (range_with_len l.kept (length l.name.labels - l.kept))) ≡ barrier_above l.zone l.name
