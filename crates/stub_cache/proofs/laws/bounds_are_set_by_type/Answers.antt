use Rattle.stub_cache.proofs.BoundsLaws.{bounds_of_own, bounds_of_other}
use Rattle.stub_cache.proofs.laws.bounds_are_set_by_type.Goals as goal

pub returns-clause-own : goal.returns-clause-own
returns-clause-own c = bounds_of_own

pub returns-clause-others : goal.returns-clause-others
returns-clause-others c = bounds_of_other
