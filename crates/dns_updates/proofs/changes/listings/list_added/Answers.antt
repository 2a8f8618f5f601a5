use Rattle.std.proofs.Common.{sym}
use Rattle.dns_records.specs.Rows.{Rows, key, with_set}
use Rattle.dns_updates.specs.Changes.{overlay}
use Rattle.dns_updates.proofs.ListingLaws.{listed_less, placed_less}
use Rattle.dns_updates.proofs.changes.listings.list_added.Goals as goal

pub returns-then-has_current-clause-listed : goal.returns-then-has_current-clause-listed
returns-then-has_current-clause-listed g c = λ s listed.
    let zone : Rows = g.Z.ZoneRows.rows c.args.zone.now in
    let rows : Rows = overlay zone c.args.pending.now.sets in
    listed_less zone rows (with_set rows (key c.args.owner.now.labels c.args.record_type) s) c.args.pending.now.types listed
    (placed_less rows (key c.args.owner.now.labels c.args.record_type) s (sym c.if-has_current.ensures))
