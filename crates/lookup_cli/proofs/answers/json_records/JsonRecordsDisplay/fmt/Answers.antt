use Rattle.std.proofs.Common.{rules}
use Rattle.std.proofs.Output.{has_written_append, has_written_of_eq}
use Rattle.lookup_cli.proofs.RecordsLaws.{first_and_others}
use Rattle.lookup_cli.proofs.answers.json_records.JsonRecordsDisplay.fmt.Goals as goal

pub returns-clause-writes : goal.returns-clause-writes
returns-clause-writes g c = λ plain ok.
    let first = c.in_ok-write_record.ensures plain (search rules) in
    has_written_of_eq _ _ _ _ _ (first_and_others c.args.self.now.0.now c.first-item.result c.in-len1-up.len_at_least c.first-item.is)
    (has_written_append _ _ _ _ _ _ first (c.write_others.ensures first.plain ok))
