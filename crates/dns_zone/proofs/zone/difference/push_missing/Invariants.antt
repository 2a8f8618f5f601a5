use Rattle.std.proofs.Common.{◌≡◌, ◌++◌, not, take}
use Rattle.dns_zone.specs.internal.Change.{has_entry}
use Rattle.dns_zone.proofs.RowIndexLaws.{kept}
use Rattle.dns_zone.proofs.zone.difference.push_missing.Given as goal

abbrev pub invariant-loop-present : goal.invariant-loop-present
invariant-loop-present l =
    l.target.items ≡ l.initial.target.items ++ kept (λ row. not (has_entry l.index.keys row)) l.owner (take l.present-index l.records)
