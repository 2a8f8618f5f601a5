use Rattle.stub_cache.specs.Cache.{entry_of}
use Rattle.stub_cache.proofs.EvictionLaws.{inserted_within}
use Rattle.stub_cache.proofs.laws.capacity_is_never_exceeded.Goals as goal

pub returns : goal.returns
returns c cache q kept now within = inserted_within cache.capacity cache.entries within (entry_of cache.config q kept now)
