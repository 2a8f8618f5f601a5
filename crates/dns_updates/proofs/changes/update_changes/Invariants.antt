use Rattle.std.proofs.Common.{◌≡◌, take, true, []}
use Rattle.std.specs.List.{fold}
use Rattle.dns_updates.specs.Change.{are_void, change}
use Rattle.dns_updates.specs.Changes.{overlay}
use Rattle.dns_updates.specs.internal.Indexes.{AreListed}
use Rattle.dns_updates.proofs.changes.update_changes.Given as goal

abbrev pub invariant-loop-update : goal.invariant-loop-update
invariant-loop-update g l = record {
  change : overlay (g.Z.ZoneRows.rows l.zone) l.pending.sets ≡ fold (change l.origin) (g.Z.ZoneRows.rows l.zone) (take l.update-index l.update-items);
  listed : AreListed (g.Z.ZoneRows.rows l.zone) (overlay (g.Z.ZoneRows.rows l.zone) l.pending.sets) l.pending.types;
  decided : are_void l.origin (g.Z.ZoneRows.rows l.zone) l.update-items ≡ true → l.pending.sets ≡ [];
}
