use Rattle.std.proofs.Common.{sym, subst}
use Rattle.dns_records.specs.RecordSet.{AreDistinct, record_data}
use Rattle.dns_records.proofs.RecordSetLaws.{without_distinct}
use Rattle.dns_records.proofs.record_set.edits.remove_record.Goals as goal

pub returns-then-not-are_protected-clause-distinct : goal.returns-then-not-are_protected-clause-distinct
returns-then-not-are_protected-clause-distinct c = λ distinct. subst (AreDistinct record_data) (sym c.remove_data.ensures.records) (without_distinct record_data c.args.records.now c.args.rdata.now distinct)
