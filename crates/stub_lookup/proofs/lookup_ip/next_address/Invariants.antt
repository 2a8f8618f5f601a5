use Rattle.std.proofs.Common.{◌≡◌, length}
use Rattle.std.specs.Vec.Iter.{into_iter_items}
use Rattle.stub_lookup.specs.LookupIp.{addresses_in}
use Rattle.stub_lookup.proofs.lookup_ip.next_address.Given as goal

-- the records that were taken have no address
abbrev pub invariant-loop-record : goal.invariant-loop-record
invariant-loop-record l =
    addresses_in (into_iter_items l.records) ≡ addresses_in (into_iter_items l.initial.records)

abbrev pub decreases-loop-record : goal.decreases-loop-record
decreases-loop-record l = length (into_iter_items l.records)
