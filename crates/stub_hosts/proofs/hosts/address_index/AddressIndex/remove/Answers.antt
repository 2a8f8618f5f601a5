use Rattle.std.proofs.Common.{sym, subst}
use Rattle.std.specs.BTreeMap.{is_at}
use Rattle.stub_hosts.specs.internal.HostKeys.{key_cmp}
use Rattle.stub_hosts.specs.internal.Hosts.{ArePointers}
use Rattle.stub_hosts.proofs.PointerLaws.{pointers_removed}
use Rattle.stub_hosts.proofs.hosts.address_index.AddressIndex.remove.Goals as goal

pub invariant_of-self : goal.invariant_of-self
invariant_of-self c = (
  subst ArePointers (sym c.remove.ensures.entries) (pointers_removed (is_at (key_cmp c.args.key.now)) c.self.inside.names.entries c.self.invariant.0),
  c.remove.ensures.ordered,
)
