use Rattle.std.proofs.Common.{sym, ◌∙◌}
use Rattle.dns_records.proofs.DataIndexLaws.{kept, put}
use Rattle.dns_records.proofs.data_index.enter.Goals as goal

pub returns-then-contains_key-clause-ok : goal.returns-then-contains_key-clause-ok
returns-then-contains_key-clause-ok c = kept c.args.positions.now c.args.rdata.now c.args.place (sym c.contains_key.ensures ∙ c.if-contains_key.true)

pub returns-clause-ok : goal.returns-clause-ok
returns-clause-ok c = put c.args.positions.now c.insert.new.self c.in_ok-clone.field-0 c.args.rdata.now c.args.place c.in_ok-clone.ensures.ok (sym c.contains_key.ensures ∙ c.if-contains_key.false) c.in_ok-insert.ensures.updates
