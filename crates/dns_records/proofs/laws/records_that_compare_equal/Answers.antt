use Rattle.dns_records.proofs.OrderLaws.{parts_tie}
use Rattle.dns_records.proofs.laws.records_that_compare_equal.Goals as goal

pub returns : goal.returns
returns g c x y = parts_tie g.R.RecordData.rdata g.R.Ord.cmp x y
