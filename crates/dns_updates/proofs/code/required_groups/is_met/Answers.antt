use Rattle.std.proofs.Common.{sym}
use Rattle.dns_updates.specs.Code.{has_required}
use Rattle.dns_updates.proofs.RequiredLaws.{met_alone, met_not}
use Rattle.dns_updates.proofs.code.required_groups.is_met.Goals as goal

pub returns-then-not-is_in_class-clause-met : goal.returns-then-not-is_in_class-clause-met
returns-then-not-is_in_class-clause-met g c = λ required left any.
    met_not (has_required (g.Z.ZoneRows.rows c.args.zone.now) required) c.args.prerequisite.now (sym c.if-not-is_in_class.ensures)

pub returns-clause-met : goal.returns-clause-met
returns-clause-met g c = λ required left any.
    met_alone (has_required (g.Z.ZoneRows.rows c.args.zone.now) required) c.args.prerequisite.now c.in_ok-met.met (sym c.if-not-is_in_class.ensures)
    (c.in_ok-met.ensures.met required left (any (sym c.if-not-is_in_class.ensures)))
