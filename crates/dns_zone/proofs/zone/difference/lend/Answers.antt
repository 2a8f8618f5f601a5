use Rattle.std.proofs.Common.{refl}
use Rattle.std.specs.Borrow.{Bor}
use Rattle.dns_records.specs.Record.{Record}
use Rattle.dns_updates.proofs.DataSetLaws.{mapped_more}
use Rattle.dns_zone.specs.Rows.{row_of}
use Rattle.dns_zone.proofs.zone.difference.lend.Goals as goal

pub loop-present-preserved : goal.loop-present-preserved
loop-present-preserved c =
    mapped_more (λ (r : Bor Record). row_of r.now) row_of c.loop-present.lent.items c.push.new.self.items _ c.args.records.now c.loop-present.present-index c.present-item.result _
    c.loop-present-test.true c.present-item.is c.in_ok-push.ensures.items refl c.loop-present.invariant
