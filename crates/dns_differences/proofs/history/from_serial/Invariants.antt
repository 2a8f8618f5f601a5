use Rattle.std.proofs.Common.{◌≡◌, length}
use Rattle.dns_differences.specs.History.{from_serial}
use Rattle.dns_differences.proofs.history.from_serial.Given as goal

-- the differences that were passed are not from the version
abbrev pub invariant-loop-first : goal.invariant-loop-first
invariant-loop-first l = from_serial l.serial l.rest ≡ from_serial l.serial l.differences

abbrev pub decreases-loop-first : goal.decreases-loop-first
decreases-loop-first l = length l.rest
