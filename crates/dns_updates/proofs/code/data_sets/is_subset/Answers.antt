use Rattle.std.proofs.Common.{◌∙◌}
use Rattle.dns_updates.specs.Records.{is_among}
use Rattle.dns_updates.specs.internal.Required.{has_datum, lent}
use Rattle.dns_updates.proofs.DataSetLaws.{all_alike}
use Rattle.dns_updates.proofs.code.data_sets.is_subset.Goals as goal

pub returns : goal.returns
returns c = c.has_all.ensures ∙ all_alike (has_datum c.in_ok-index.index.keys) (is_among (lent c.args.whole.now)) c.in_ok-index.ensures (lent c.args.part.now)
