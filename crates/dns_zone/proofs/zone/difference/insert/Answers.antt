use Rattle.dns_zone.specs.Rows.{row_of}
use Rattle.dns_zone.specs.internal.Change.{has_entry}
use Rattle.dns_zone.proofs.RowIndexLaws.{entry_inserted}
use Rattle.dns_zone.proofs.zone.difference.insert.Goals as goal

pub returns : goal.returns
returns c = λ row.
    entry_inserted (row_of c.args.present.now) row (has_entry c.args.index.now.keys row) (has_entry c.insert.new.self.keys row)
    (c.in_ok-insert.ensures.updates.0 (row.ttl, record { ref_ptr = c.args.present.ref_ptr; now = row.rdata }))
