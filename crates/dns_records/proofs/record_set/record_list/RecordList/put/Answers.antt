use Rattle.std.proofs.Common.{sym, ◌∙◌}
use Rattle.std.proofs.lemmas.Result.{on_ok_weaker}
use Rattle.dns_data.specs.rdata.{same_data}
use Rattle.dns_records.specs.Record.{Record}
use Rattle.dns_wire.proofs.StoredLaws.{on_err}
use Rattle.dns_records.specs.RecordSet.{record_data}
use Rattle.dns_records.proofs.RecordSetLaws.{found_none}
use Rattle.dns_records.proofs.PutLaws.{passes, put_none, put_some}
use Rattle.dns_records.proofs.record_set.record_list.RecordList.put.Goals as goal

pub replace-requires-clause-equal : goal.replace-requires-clause-equal
replace-requires-clause-equal c = passes (λ (x : Record). same_data x.rdata c.args.resource_record.rdata) c.args.self.now c.in-Some.place (sym c.position.ensures ∙ c.in-Some.is)

pub returns-in-Some-clause-ok : goal.returns-in-Some-clause-ok
returns-in-Some-clause-ok c = c.replace.ensures ∙ put_some c.args.self.now c.args.resource_record c.in-Some.place (sym c.position.ensures ∙ c.in-Some.is)

pub returns-in-None-clause-ok : goal.returns-in-None-clause-ok
returns-in-None-clause-ok c = on_ok_weaker c.push.result (λ e. e ∙ sym (put_none c.args.self.now c.args.resource_record (sym c.position.ensures ∙ c.in-None.is))) c.push.ensures.ok

pub returns-in-None-clause-grows : goal.returns-in-None-clause-grows
returns-in-None-clause-grows c = on_err c.push.result (found_none record_data c.args.self.now c.args.resource_record.rdata (sym c.in-None.is ∙ c.position.ensures)).0
