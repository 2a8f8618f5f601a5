use Rattle.std.proofs.Common.{◌≡◌, drop}
use Rattle.zone_check.specs.Apex.{first_meant}
use Rattle.zone_check.proofs.apex.first_meant.Given as goal

-- no entry before the index is meant as one
abbrev pub invariant-loop-entry : goal.invariant-loop-entry
invariant-loop-entry l = first_meant (drop l.entry-index l.entries) ≡ first_meant l.entries
