use Rattle.std.proofs.Common.{◌≡◌, true, length}
use Rattle.std.specs.List.{AllByRecursion}
use Rattle.dns_wire.specs.declared.codes.record_type.RecordType.{RecordType}
use Rattle.dns_updates.specs.Keys.{owner_code, type_code}
use Rattle.dns_durable.specs.Draft.{Grows, Settled, is_settled}
use Rattle.dns_durable.specs.internal.Drafting.{GoesOn}
use Rattle.dns_durable.proofs.draft.Draft.settle_owner.Given as goal

-- the types that are left complete those that are settled
abbrev pub invariant-loop-record_type : goal.invariant-loop-record_type
invariant-loop-record_type l =
    GoesOn l.zone l.fn.self l.self
    × ((settled : Settled) → Grows (is_settled l.self) settled
    → AllByRecursion (λ (t : RecordType). settled (owner_code l.owner.labels, type_code t) ≡ true) l.types.items
    → AllByRecursion (λ (t : RecordType). settled (owner_code l.owner.labels, type_code t) ≡ true) l.initial.types.items)

abbrev pub decreases-loop-record_type : goal.decreases-loop-record_type
decreases-loop-record_type l = length l.types.items
