use Rattle.std.proofs.Common.{◌≡◌, true, ap, subst, sym, ◌∙◌}
use Rattle.dns_updates.specs.Change.{are_void}
use Rattle.dns_updates.specs.Changes.{AreInOrder}
use Rattle.dns_updates.proofs.VoidLaws.{void_at}
use Rattle.dns_updates.proofs.changes.update_changes.Goals as goal

pub returns-in_err-apply-clause-decided : goal.returns-in_err-apply-clause-decided
returns-in_err-apply-clause-decided g c = λ void.
    let all : are_void c.args.origin.now (g.Z.ZoneRows.rows c.args.zone.now) c.as_slice-update-items.result.now ≡ true = ap (are_void c.args.origin.now (g.Z.ZoneRows.rows c.args.zone.now)) c.as_slice-update-items.ensures ∙ void in
    let here = void_at c.args.origin.now (g.Z.ZoneRows.rows c.args.zone.now) c.as_slice-update-items.result.now c.loop-update.pending.sets c.loop-update.update-index c.update-item.result c.update-item.is c.loop-update-test.true all (c.loop-update.invariant.decided all) in
    let never = (c.in_err-apply.ensures.decided here).0 in
    absurd (cc never)

pub returns-clause-ordered : goal.returns-clause-ordered
returns-clause-ordered g c = subst AreInOrder (sym c.in_ok-sets.ensures.sets) c.in_ok-sets.ensures.ordered
