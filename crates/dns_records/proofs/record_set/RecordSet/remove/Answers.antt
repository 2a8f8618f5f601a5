use Rattle.std.proofs.Common.{sym, ap, ◌∙◌}
use Rattle.dns_records.specs.RecordSet.{RecordSetValue, without_record}
use Rattle.dns_records.specs.contracts.record_set.RecordSet.{the_view}
use Rattle.dns_records.proofs.RecordSetLaws.{none_removed}
use Rattle.dns_records.proofs.record_set.RecordSet.remove.Goals as goal

pub returns-else-is_removed-clause-set : goal.returns-else-is_removed-clause-set
returns-else-is_removed-clause-set c =
    none_removed (the_view c.self.inside) c.args.resource_record.now.rdata c.args.serial c.remove_record-is_removed.new.records (sym c.remove_record-is_removed.ensures.removed ∙ c.if-is_removed.false) c.remove_record-is_removed.ensures.records
    ∙ ap (λ (s : RecordSetValue). without_record s c.args.resource_record.now.rdata c.args.serial) c.self.view_is
