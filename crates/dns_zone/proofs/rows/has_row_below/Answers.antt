use Rattle.std.proofs.Common.{◌∙◌}
use Rattle.dns_zone.proofs.RowLaws.{row_below}
use Rattle.dns_zone.proofs.rows.has_row_below.Goals as goal

pub returns : goal.returns
returns c = c.has_set_below.ensures ∙ row_below c.args.sets.now c.args.name.now.labels
