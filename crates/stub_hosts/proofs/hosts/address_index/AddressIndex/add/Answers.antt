use Rattle.std.proofs.Common.{sym, ◌∙◌}
use Rattle.std.proofs.lemmas.Result.{on_ok_weaker}
use Rattle.stub_hosts.proofs.PointerLaws.{adds_known, adds_new, restored, sound, absent_is}
use Rattle.stub_hosts.proofs.hosts.address_index.AddressIndex.add.Goals as goal

pub returns-then-contains_key-clause-ok : goal.returns-then-contains_key-clause-ok
returns-then-contains_key-clause-ok c =
    adds_known c.args.address c.args.name.now c.in_ok-key.key c.self.inside.names.entries c.args.self.now
    c.requires c.self.invariant.0 c.self.invariant.1 c.in_ok-key.ensures c.self.view_is (sym c.contains_key.ensures ∙ c.if-contains_key.true)

pub invariant_of-self : goal.invariant_of-self
invariant_of-self c =
    sound c.args.address c.args.name.now c.in_ok-key.key c.self.inside.names.entries c.args.self.now
    c.requires c.self.invariant.0 c.self.invariant.1 c.in_ok-key.ensures c.self.view_is (absent_is _ (sym c.contains_key.ensures ∙ c.if-contains_key.false))
    c.insert.result c.args.added.now.items c.insert.new.added.items c.insert.new.names.entries c.insert.ensures.ok c.insert.ensures.err c.insert.ensures.ordered

pub returns-clause-ok : goal.returns-clause-ok
returns-clause-ok c =
    on_ok_weaker c.insert.result
    (λ is. adds_new c.args.address c.args.name.now c.in_ok-key.key c.self.inside.names.entries c.args.self.now
    c.requires c.self.invariant.0 c.self.invariant.1 c.in_ok-key.ensures c.self.view_is (absent_is _ (sym c.contains_key.ensures ∙ c.if-contains_key.false)) c.insert.new.names.entries is.0)
    c.insert.ensures.ok

pub returns-clause-added : goal.returns-clause-added
returns-clause-added c =
    restored c.args.address c.args.name.now c.in_ok-key.key c.self.inside.names.entries c.args.self.now
    c.requires c.self.invariant.0 c.self.invariant.1 c.in_ok-key.ensures c.self.view_is (absent_is _ (sym c.contains_key.ensures ∙ c.if-contains_key.false))
    c.insert.result c.args.added.now.items c.insert.new.added.items c.insert.new.names.entries c.insert.ensures.ok c.insert.ensures.err
