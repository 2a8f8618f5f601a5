use Rattle.std.proofs.Common.{◌≡◌, ◌+◌, take}
use Rattle.std.specs.Prelude.{sum_by}
use Rattle.dns_differences.specs.Difference.{record_octets}
use Rattle.dns_differences.proofs.difference.left_after_records.Given as goal

-- what is left after the records so far
abbrev pub invariant-loop-present : goal.invariant-loop-present
invariant-loop-present l = l.left + sum_by record_octets (take l.present-index l.records) ≡ l.room
