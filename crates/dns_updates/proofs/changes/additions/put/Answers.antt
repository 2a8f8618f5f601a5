use Rattle.std.proofs.Common.{◌∙◌, ap, List}
use Rattle.dns_records.specs.Rows.{key_of, with_set}
use Rattle.dns_updates.specs.Change.{set_with}
use Rattle.dns_updates.specs.Changes.{overlay}
use Rattle.dns_updates.specs.declared.changes.changed_set.ChangedSet.{ChangedSet}
use Rattle.dns_updates.proofs.changes.additions.put.Goals as goal

pub returns-clause-change : goal.returns-clause-change
returns-clause-change g c =
    c.in_ok-put_row.ensures
    ∙ ap (λ (sets : List ChangedSet). with_set (overlay (g.Z.ZoneRows.rows c.args.zone.now) sets) (key_of c.args.update.now) (set_with (overlay (g.Z.ZoneRows.rows c.args.zone.now) sets) c.args.update.now)) c.list_added.ensures.sets
