use Rattle.std.proofs.Common.{rules, sym}
use Rattle.std.proofs.Output.{has_written_append, has_written_of_eq}
use Rattle.lookup_cli.specs.answers.Plain.{record_line}
use Rattle.lookup_cli.proofs.RecordsLaws.{one_more}
use Rattle.lookup_cli.proofs.answers.plain.write_records.Goals as goal

pub loop-record-preserved : goal.loop-record-preserved
loop-record-preserved g c = λ plain.
    has_written_of_eq _ _ _ _ _
    (one_more record_line c.args.records.now c.loop-record.record-index c.record-item.result c.loop-record-test.true (sym c.record-item.is))
    (has_written_append _ _ _ _ _ _ (c.loop-record.invariant plain) (search rules))
