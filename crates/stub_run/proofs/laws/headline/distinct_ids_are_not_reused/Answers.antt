use Rattle.stub_run.proofs.DistinctIds.{counted-distinct, distinct-not-reused}
use Rattle.stub_run.proofs.laws.headline.distinct_ids_are_not_reused.Goals as goal

pub returns-clause-drawn : goal.returns-clause-drawn
returns-clause-drawn c = λ ids sent distinct drawn. distinct-not-reused ids sent distinct drawn

pub returns-clause-counted : goal.returns-clause-counted
returns-clause-counted c = λ n ids counted. counted-distinct n ids counted
