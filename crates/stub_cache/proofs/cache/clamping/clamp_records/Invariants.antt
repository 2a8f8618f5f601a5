use Rattle.std.proofs.Common.{◌≡◌, ◌++◌, map, take, drop}
use Rattle.stub_cache.specs.Ttl.{clamped_record}
use Rattle.stub_cache.proofs.cache.clamping.clamp_records.Given as goal

-- the records so far are within their bounds
abbrev pub invariant-loop-present : goal.invariant-loop-present
invariant-loop-present l = l.records ≡ map (clamped_record l.config) (take l.present-index l.initial.records) ++ drop l.present-index l.initial.records
