use Rattle.std.proofs.Common.{◌≡◌}
use Rattle.stub_hosts.specs.internal.Hosts.{without_keys}
use Rattle.stub_hosts.proofs.hosts.address_index.AddressIndex.remove_all.Given as goal

-- what is left to remove
abbrev pub invariant-loop-key : goal.invariant-loop-key
invariant-loop-key l = without_keys l.keys.items l.self ≡ without_keys l.fn.keys.items l.fn.self

abbrev pub decreases-loop-key : goal.decreases-loop-key
decreases-loop-key l = goal.left-loop-key l
