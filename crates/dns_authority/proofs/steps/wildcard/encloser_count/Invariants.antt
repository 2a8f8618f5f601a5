use Rattle.std.proofs.Common.{◌≡◌, ◌<◌}
use Rattle.std.specs.Prelude.{option_map, IfSome}
use Rattle.dns_authority.specs.steps.Wildcard.{closest_encloser, suffix}
use Rattle.dns_authority.proofs.steps.wildcard.encloser_count.Given as goal

abbrev pub invariant-loop-kept : goal.invariant-loop-kept
invariant-loop-kept l = record {
  encloser : option_map (suffix l.name.labels) l.found ≡ closest_encloser l.zone.rows (suffix l.name.labels l.kept);
  within : IfSome l.found (λ found. found < l.kept);
}
