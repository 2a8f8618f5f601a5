use Rattle.std.proofs.Common.{ap, sym, ◌∙◌}
use Rattle.stub_hosts.specs.internal.Hosts.{without_keys}
use Rattle.stub_hosts.proofs.PointerLaws.{without_last}
use Rattle.stub_hosts.proofs.hosts.address_index.AddressIndex.remove_all.Goals as goal

pub loop-key-preserved : goal.loop-key-preserved
loop-key-preserved c =
    ap (without_keys c.pop.new.self.items) c.remove.ensures
    ∙ sym (without_last c.pop.new.self.items c.in-Some.key c.loop-key.self)
    ∙ ap (λ keys. without_keys keys c.loop-key.self) (sym c.in-Some.ensures.items)
    ∙ c.loop-key.invariant
