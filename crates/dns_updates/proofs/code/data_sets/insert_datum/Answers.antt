use Rattle.dns_updates.specs.internal.Required.{has_datum}
use Rattle.dns_updates.proofs.DataSetLaws.{datum_inserted}
use Rattle.dns_updates.proofs.code.data_sets.insert_datum.Goals as goal

pub returns : goal.returns
returns c = λ d.
    datum_inserted c.args.rdata.now d (has_datum c.args.index.now.keys d) (has_datum c.insert.new.self.keys d)
    (c.in_ok-insert.ensures.updates.0 (record { ref_ptr = c.args.rdata.ref_ptr; now = d }))
