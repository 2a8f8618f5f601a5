use Rattle.dns_records.specs.RecordSet.{record_for}
use Rattle.dns_records.proofs.RecordSetLaws.{with_distinct}
use Rattle.dns_records.proofs.record_set.RecordSet.add_rdata.Goals as goal

pub returns-clause-distinct : goal.returns-clause-distinct
returns-clause-distinct c = with_distinct c.args.self.now c.put_rdata.new.self (record_for c.args.self.now c.args.rdata) c.args.self.now.serial c.in_ok-put_rdata.ensures.ok
