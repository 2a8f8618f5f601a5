use Rattle.std.proofs.Common.{rules, sym}
use Rattle.std.proofs.Output.{has_written_append, has_written_of_eq}
use Rattle.lookup_cli.specs.answers.JsonRecords.{other_record}
use Rattle.lookup_cli.proofs.RecordsLaws.{one_more}
use Rattle.lookup_cli.proofs.answers.json_records.write_others.Goals as goal

pub loop-found-preserved : goal.loop-found-preserved
loop-found-preserved g c = λ plain.
    has_written_of_eq _ _ _ _ _
    (one_more other_record c.args.records.now c.loop-found.found-index c.found-item.result c.loop-found-test.true (sym c.found-item.is))
    (has_written_append _ _ _ _ _ _ (c.loop-found.invariant plain) (search rules))
