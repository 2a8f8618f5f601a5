use Rattle.std.proofs.Common.{◌∙◌, ap, sym, subst}
use Rattle.dns_zone.specs.Maintained.{risen, IsRecordable}
use Rattle.dns_zone.specs.Rows.{ZoneContent, rows_of}
use Rattle.dns_zone.specs.internal.Rise.{zone_with_start}
use Rattle.dns_updates.specs.Change.{update_change}
use Rattle.dns_zone.proofs.RisingLaws.{finished_by, IsFinished}
use Rattle.dns_zone.proofs.zone.Zone.change_rising.Goals as goal
use Rattle.dns_zone.proofs.zone.Zone.change_rising.Goals.{In_ok-store}

done : (c : In_ok-store) → IsFinished c.args.self.now c.store.new.self c.in_ok-rise.rise.change (rows_of c.in_ok-rise.rise.start.items)
done c =
    finished_by c.args.self.now c.store.new.self (update_change c.args.self.now.origin c.args.self.now.rows c.args.update.now) c.in_ok-change.change c.in_ok-rise.rise
    c.well_formed-2.ensures c.in_ok-store.ensures.well_formed c.in_ok-store.ensures.ok c.in_ok-change.ensures c.in_ok-rise.ensures

pub finish-requires : goal.finish-requires
finish-requires c = (done (goal.at.finish-requires c).In_ok-store).well

pub returns-clause-ok : goal.returns-clause-ok
returns-clause-ok c =
    let a = done (goal.at.returns-clause-ok c).In_ok-store in
    c.finish.ensures.zone ∙ a.zone_is c.lower_keys.ensures c.finish.ensures.keys ∙ ap (risen c.args.self.now) c.in_ok-store.ensures.ok

pub returns-clause-change : goal.returns-clause-change
returns-clause-change c =
    let a = done (goal.at.returns-clause-change c).In_ok-store in
    subst (λ (z : ZoneContent). IsRecordable c.args.self.now.rows z.rows c.finish.result) (sym c.finish.ensures.zone)
    (subst (IsRecordable c.args.self.now.rows (zone_with_start c.store.new.self (rows_of c.in_ok-rise.rise.start.items)).rows) (sym c.finish.ensures.change) a.recordable)
