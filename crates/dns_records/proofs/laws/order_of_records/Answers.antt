use Rattle.dns_records.proofs.OrderLaws.{record_cmp-total}
use Rattle.dns_records.proofs.laws.order_of_records.Goals as goal

pub returns : goal.returns
returns g c = record_cmp-total g.R.RecordData.rdata g.R.Ord.cmp g.met.R.Ord.total
