use Rattle.std.proofs.Common.{ℕ, ◌≤◌}
use Rattle.dns_wire.specs.Pointers.{Follows}
use Rattle.dns_wire.proofs.pointers.follow.Given as goal

-- pointers lead to the end so far, so where they lead from there, they lead from the first place too
abbrev pub invariant-loop-target : goal.invariant-loop-target
invariant-loop-target l = record {
  follows : (last : ℕ) → Follows l.buffer l.end last → Follows l.buffer l.place last;
  within : l.end ≤ l.place;
}

abbrev pub decreases-loop-target : goal.decreases-loop-target
decreases-loop-target l = l.end
