use Rattle.std.proofs.Common.{◌≡◌}
use Rattle.dns_zone.specs.Rows.{ZoneContent}
use Rattle.dns_durable.specs.Draft.{IsDraftOf}
use Rattle.dns_durable.proofs.draft.Draft.write_on.Given as goal

-- the draft is still one of the same zone
abbrev pub invariant-loop-left : goal.invariant-loop-left
invariant-loop-left l =
    ((base : ZoneContent) → IsDraftOf base l.zone l.fn.self → IsDraftOf base l.zone l.self) × (l.self.carried ≡ l.fn.self.carried)

abbrev pub decreases-loop-left : goal.decreases-loop-left
decreases-loop-left l = l.left
