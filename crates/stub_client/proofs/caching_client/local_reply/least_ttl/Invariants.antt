use Rattle.std.proofs.Common.{◌≡◌, drop}
use Rattle.stub_cache.specs.Ttl.{least_ttl}
use Rattle.stub_cache.specs.internal.Ttl.{lesser_of}
use Rattle.stub_client.proofs.caching_client.local_reply.least_ttl.Given as goal

-- the least TTL so far, or a lesser one among the records that are left
abbrev pub invariant-loop-entry : goal.invariant-loop-entry
invariant-loop-entry l = lesser_of l.least (least_ttl (drop l.entry-index l.records)) ≡ least_ttl l.records
