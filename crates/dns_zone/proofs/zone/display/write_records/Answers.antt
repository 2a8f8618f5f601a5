use Rattle.std.proofs.Common.{◌++◌, refl, rules}
use Rattle.std.proofs.Output.{has_written_append}
use Rattle.dns_records.specs.Record.{Record}
use Rattle.dns_zone_file.specs.Printed.{record_line}
use Rattle.dns_zone.proofs.LineLaws.{text_further}
use Rattle.dns_zone.proofs.zone.display.write_records.Goals as goal

pub loop-present-preserved : goal.loop-present-preserved
loop-present-preserved g c = λ plain.
    let so_far = c.loop-present.invariant plain in
    let r : Record = c.present-item.result in (
      so_far.0 ++ record_line c.args.owner.now r.ttl r.rdata,
      has_written_append _ _ _ _ _ _ so_far.1 (search rules),
      text_further (λ (r : Record). record_line c.args.owner.now r.ttl r.rdata) c.args.records.now c.loop-present.present-index r _ so_far.0 _ refl c.loop-present-test.true c.present-item.is so_far.2,
    )
