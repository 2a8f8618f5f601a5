use Rattle.std.proofs.Common.{ap, ◌∙◌}
use Rattle.dns_records.specs.Rows.{rows_of}
use Rattle.dns_updates.proofs.ChangeLaws.{rows_without}
use Rattle.dns_updates.proofs.changes.edits.remove_data.Goals as goal

pub returns : goal.returns
returns c = ap rows_of c.in_ok-remove.ensures ∙ rows_without c.args.rdata.now c.args.records
