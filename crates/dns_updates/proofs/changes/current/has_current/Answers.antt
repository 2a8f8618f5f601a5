use Rattle.std.proofs.Common.{sym, ap, ◌∙◌, not}
use Rattle.dns_updates.proofs.ChangeLaws.{has_found, has_below}
use Rattle.dns_updates.proofs.changes.current.has_current.Goals as goal

pub returns-in-Some : goal.returns-in-Some
returns-in-Some g c =
    ap not c.is_empty.ensures
    ∙ sym (has_found (g.Z.ZoneRows.rows c.args.zone.now) c.args.sets.now c.args.owner.now c.args.record_type c.in-Some.set.now (sym c.in-Some.ensures))

pub returns-in-None : goal.returns-in-None
returns-in-None g c =
    c.has_set.ensures
    ∙ sym (has_below (g.Z.ZoneRows.rows c.args.zone.now) c.args.sets.now c.args.owner.now c.args.record_type (sym c.in-None.ensures))
