use Rattle.std.proofs.Common.{ap, ◌∙◌}
use Rattle.dns_records.specs.Rows.{rows_of}
use Rattle.dns_updates.proofs.PutLaws.{put_rows}
use Rattle.dns_updates.proofs.changes.edits.put_record.Goals as goal

pub returns : goal.returns
returns c = ap rows_of c.in_ok-put.ensures ∙ put_rows c.args.records c.args.resource_record
