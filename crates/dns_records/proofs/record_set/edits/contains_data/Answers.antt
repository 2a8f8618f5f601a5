use Rattle.std.proofs.Common.{ap, ◌∙◌}
use Rattle.std.specs.Prelude.{is_some}
use Rattle.dns_records.proofs.RecordSetLaws.{has_position}
use Rattle.dns_records.proofs.record_set.edits.contains_data.Goals as goal

pub returns : goal.returns
returns c = c.is_some.ensures ∙ ap is_some c.position.ensures ∙ has_position c.args.records.now c.args.rdata.now
