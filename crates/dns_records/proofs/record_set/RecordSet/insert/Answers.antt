use Rattle.std.proofs.Common.{ap}
use Rattle.dns_records.specs.RecordSet.{RecordSetValue}
use Rattle.dns_records.proofs.RecordSetLaws.{insert_distinct}
use Rattle.dns_records.proofs.record_set.RecordSet.insert.Goals as goal

pub returns-then-is_inserted-clause-distinct : goal.returns-then-is_inserted-clause-distinct
returns-then-is_inserted-clause-distinct c = insert_distinct c.args.self.now.records c.insert_record.new.records c.self.inside.records c.args.resource_record (ap (λ (s : RecordSetValue). s.records) c.self.view_is) c.in_ok-is_inserted.ensures.ok
