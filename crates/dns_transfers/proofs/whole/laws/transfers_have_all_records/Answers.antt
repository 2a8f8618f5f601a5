use Rattle.dns_transfers.proofs.ZoneRecordLaws.{zone_arrives}
use Rattle.dns_transfers.proofs.whole.laws.transfers_have_all_records.Goals as goal

pub returns : goal.returns
returns c = zone_arrives
