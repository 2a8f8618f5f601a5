use Rattle.std.proofs.Common.{List, sym, subst}
use Rattle.dns_wire.specs.declared.codes.record_type.RecordType.{RecordType}
use Rattle.dns_updates.specs.Sets.{AreTypesAt}
use Rattle.dns_updates.proofs.ChangeLaws.{types_of_sets}
use Rattle.dns_zone.specs.Rows.{rows_of_sets}
use Rattle.dns_zone.proofs.sets.zone_rows.ZoneSetsZoneRows.types.Goals as goal

pub returns : goal.returns
returns c =
    subst (λ (ts : List RecordType). AreTypesAt (rows_of_sets c.args.self.now) c.args.owner.now.labels ts) (sym c.in_ok-found.ensures)
    (types_of_sets c.args.self.now c.args.owner.now.labels)
