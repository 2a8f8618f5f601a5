use Rattle.std.proofs.Common.{sym, ◌∙◌}
use Rattle.dns_records.specs.RecordSet.{record_data}
use Rattle.dns_records.proofs.RecordSetLaws.{found_some, found_none}
use Rattle.dns_records.proofs.record_set.edits.remove_data.Goals as goal

pub returns-in-Some-clause-removed : goal.returns-in-Some-clause-removed
returns-in-Some-clause-removed c = sym (found_some record_data c.args.records.now c.args.rdata.now c.in-Some.index (sym c.in-Some.is ∙ c.position.ensures)).0

pub returns-in-Some-clause-records : goal.returns-in-Some-clause-records
returns-in-Some-clause-records c = c.remove.ensures ∙ (found_some record_data c.args.records.now c.args.rdata.now c.in-Some.index (sym c.in-Some.is ∙ c.position.ensures)).1

pub returns-in-None-clause-removed : goal.returns-in-None-clause-removed
returns-in-None-clause-removed c = sym (found_none record_data c.args.records.now c.args.rdata.now (sym c.in-None.is ∙ c.position.ensures)).0

pub returns-in-None-clause-records : goal.returns-in-None-clause-records
returns-in-None-clause-records c = sym (found_none record_data c.args.records.now c.args.rdata.now (sym c.in-None.is ∙ c.position.ensures)).1
