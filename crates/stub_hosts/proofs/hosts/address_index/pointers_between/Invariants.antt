use Rattle.std.proofs.Common.{◌≡◌, ◌++◌, map}
use Rattle.std.specs.BTreeMap.Range.{entries_between}
use Rattle.std.specs.Map.{values_of}
use Rattle.std.specs.declared.ops.Bound.TheVariants.{Included, Excluded}
use Rattle.stub_hosts.specs.internal.HostKeys.{key_cmp}
use Rattle.stub_hosts.specs.internal.Hosts.{pointer_to}
use Rattle.stub_hosts.proofs.hosts.address_index.pointers_between.Given as goal

-- the pointers so far, and those that are left
abbrev pub invariant-loop-name : goal.invariant-loop-name
invariant-loop-name l =
    l.pointers.items ++ map (pointer_to l.owner) (values_of l.name-iterator)
    ≡ map (pointer_to l.owner) (values_of (entries_between key_cmp (Included l.start) (Excluded l.end) l.names.entries))
