use Rattle.std.proofs.Common.{◌≡◌, ◌∙◌, length, subst, map}
use Rattle.dns_wire.specs.Encoder.{state_of}
use Rattle.dns_wire.specs.Encodable.{AreWritable}
use Rattle.dns_wire.specs.Items.{fitting_items}
use Rattle.dns_messages.specs.Cut.{record_item}
use Rattle.dns_transfers.specs.Records.{lent_record}
use Rattle.dns_transfers.proofs.BatchLaws.{append-map, borrowed, count-map, fitting-map, if_ok}
use Rattle.dns_transfers.proofs.batch.BatchEmitAndCount.emit.Goals as goal

pub returns-clause-count : goal.returns-clause-count
returns-clause-count c =
    let w = state_of c.args.encoder.now in
    let ys = c.args.self.now.records.now in
    if_ok (λ n. n ≡ length (fitting_items (borrowed record_item lent_record) w ys)) (λ n. n ≡ length (fitting_items record_item w (map lent_record ys))) c.emit_fitting.result (count-map record_item lent_record w ys) c.emit_fitting.ensures.count

pub returns-clause-wrote : goal.returns-clause-wrote
returns-clause-wrote c = λ ok. c.emit_fitting.ensures.wrote ok ∙ append-map record_item lent_record (state_of c.args.encoder.now) c.args.self.now.records.now

pub returns-clause-writable : goal.returns-clause-writable
returns-clause-writable c = λ ok. subst AreWritable (fitting-map record_item lent_record (state_of c.args.encoder.now) c.args.self.now.records.now) (c.emit_fitting.ensures.writable ok)
