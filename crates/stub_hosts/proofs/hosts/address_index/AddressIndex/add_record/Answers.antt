use Rattle.std.proofs.Common.{sym, ◌∙◌}
use Rattle.std.proofs.lemmas.Result.{on_ok_weaker}
use Rattle.stub_hosts.proofs.PointerLaws.{adds_of_address, adds_of_other}
use Rattle.stub_hosts.proofs.hosts.address_index.AddressIndex.add_record.Goals as goal

pub returns-in-Some-clause-ok : goal.returns-in-Some-clause-ok
returns-in-Some-clause-ok c =
    on_ok_weaker c.add.result
    (adds_of_address c.args.name.now c.in-Some.address c.args.answer.now c.args.self.now c.add.new.self (sym c.ip_addr.ensures ∙ c.in-Some.is))
    c.add.ensures.ok

pub returns-in-None-clause-ok : goal.returns-in-None-clause-ok
returns-in-None-clause-ok c = adds_of_other c.args.name.now c.args.answer.now c.args.self.now (sym c.ip_addr.ensures ∙ c.in-None.is)
