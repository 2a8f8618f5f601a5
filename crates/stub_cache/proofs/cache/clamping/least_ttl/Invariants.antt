use Rattle.std.proofs.Common.{◌≡◌, drop}
use Rattle.std.specs.List.{filter}
use Rattle.stub_cache.specs.Ttl.{least_ttl}
use Rattle.stub_cache.specs.internal.Ttl.{is_deciding_record, lesser_of}
use Rattle.stub_cache.proofs.cache.clamping.least_ttl.Given as goal

-- the least TTL so far, or a lesser one among the records that are left
abbrev pub invariant-loop-present : goal.invariant-loop-present
invariant-loop-present l =
    lesser_of l.least (least_ttl (filter (is_deciding_record l.query_type) (drop l.present-index l.records)))
    ≡ least_ttl (filter (is_deciding_record l.query_type) l.records)
