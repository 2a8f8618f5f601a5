use Rattle.std.proofs.Common.{◌≡◌, ◌≤◌}
use Rattle.dns_authority.specs.replies.WholeSets.{set_start}
use Rattle.dns_authority.proofs.replies.whole_sets.set_start.Given as goal

abbrev pub invariant-loop-start : goal.invariant-loop-start
invariant-loop-start l = (l.start ≤ l.fn.place) × (set_start l.records l.start ≡ set_start l.records l.fn.place)

abbrev pub decreases-loop-start : goal.decreases-loop-start
decreases-loop-start l = l.start
