use Rattle.std.proofs.Common.{◌∙◌, not, ap, sym}
use Rattle.dns_zone.specs.internal.Change.{has_entry}
use Rattle.dns_zone.proofs.RowIndexLaws.{none_kept, one_kept}
use Rattle.dns_zone.proofs.zone.difference.push_missing.Goals as goal
use Rattle.dns_zone.proofs.zone.difference.push_missing.Goals.{then-not-has_entry+in_ok-copy+in_ok-push, else-not-has_entry}

pub loop-present-preserved : goal.loop-present-preserved
loop-present-preserved c =
    elim c.if-not-has_entry.branch [
      | then-not-has_entry+in_ok-copy+in_ok-push w ↦
          ap (λ v. v.items) w.target-is
          ∙ one_kept (λ row. not (has_entry c.args.index.now.keys row)) c.args.owner.now c.args.target.now.items c.loop-present.target.items w.push.new.self.items c.args.records.now c.loop-present.present-index c.present-item.result
          w.in_ok-copy.field-0 c.loop-present-test.true c.present-item.is (ap not (sym w.if-not-has_entry.ensures)) w.in_ok-copy.ensures c.loop-present.invariant w.in_ok-push.ensures.items
      | else-not-has_entry w ↦
          ap (λ v. v.items) w.target-is
          ∙ none_kept (λ row. not (has_entry c.args.index.now.keys row)) c.args.owner.now c.args.target.now.items c.loop-present.target.items c.args.records.now c.loop-present.present-index c.present-item.result
          c.loop-present-test.true c.present-item.is (ap not (sym w.if-not-has_entry.ensures)) c.loop-present.invariant
    ]
