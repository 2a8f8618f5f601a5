use Rattle.std.proofs.Common.{◌≡◌, drop}
use Rattle.zone_check.specs.Apex.{first_start}
use Rattle.zone_check.proofs.apex.first_start.Given as goal

-- no entry before the index is an SOA record
abbrev pub invariant-loop-entry : goal.invariant-loop-entry
invariant-loop-entry l = first_start (drop l.entry-index l.entries) ≡ first_start l.entries
