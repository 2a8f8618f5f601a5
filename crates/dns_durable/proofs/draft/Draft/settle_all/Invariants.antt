use Rattle.std.proofs.Common.{drop}
use Rattle.std.specs.List.{AllByRecursion}
use Rattle.dns_durable.specs.Draft.{Grows, IsSettledForOne, Settled, is_settled}
use Rattle.dns_durable.specs.internal.Drafting.{GoesOn}
use Rattle.dns_durable.proofs.draft.Draft.settle_all.Given as goal

-- the requests that are left complete those whose sets are settled
abbrev pub invariant-loop-arrived : goal.invariant-loop-arrived
invariant-loop-arrived l =
    GoesOn l.zone l.fn.self l.self
    × ((settled : Settled) → Grows (is_settled l.self) settled → AllByRecursion (IsSettledForOne settled l.zone.rows) (drop l.arrived-index l.admitted)
    → AllByRecursion (IsSettledForOne settled l.zone.rows) l.admitted)
