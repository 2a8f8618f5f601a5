use Rattle.std.proofs.Common.{drop}
use Rattle.std.specs.List.{AllByRecursion}
use Rattle.dns_durable.specs.Draft.{Grows, IsSettledFor, Settled, is_settled}
use Rattle.dns_durable.specs.internal.Drafting.{GoesOn}
use Rattle.dns_durable.proofs.draft.Draft.settle_update.Given as goal

-- the records that are left complete those whose sets are settled
abbrev pub invariant-loop-update : goal.invariant-loop-update
invariant-loop-update l =
    GoesOn l.zone l.fn.self l.self
    × ((settled : Settled) → Grows (is_settled l.self) settled → AllByRecursion (IsSettledFor settled l.zone.rows) (drop l.update-index l.updates)
    → AllByRecursion (IsSettledFor settled l.zone.rows) l.updates)
