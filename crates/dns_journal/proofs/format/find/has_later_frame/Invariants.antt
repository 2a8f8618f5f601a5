use Rattle.std.proofs.Common.{ℕ, ◌<◌, ◌≤◌, drop}
use Rattle.dns_journal.specs.format.Format.{IsFrame}
use Rattle.dns_journal.proofs.format.find.has_later_frame.Given as goal

-- no frame is at a place before this one
abbrev pub invariant-loop-at : goal.invariant-loop-at
invariant-loop-at l = (k : ℕ) → 1 ≤ k → k < l.at → ¬ (IsFrame l.key (drop k l.bytes))
