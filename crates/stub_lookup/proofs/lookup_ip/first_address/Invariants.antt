use Rattle.std.proofs.Common.{◌≡◌, length}
use Rattle.stub_lookup.specs.LookupIp.{addresses_in}
use Rattle.stub_lookup.proofs.lookup_ip.first_address.Given as goal

-- the records that were passed have no address
abbrev pub invariant-loop-first : goal.invariant-loop-first
invariant-loop-first l = addresses_in l.rest ≡ addresses_in l.records

abbrev pub decreases-loop-first : goal.decreases-loop-first
decreases-loop-first l = length l.rest
