use Rattle.stub_client.proofs.OutcomesLaws.{cache-still, comes-still, leads-still}
use Rattle.stub_client.proofs.laws.outcomes.outcomes_are_only_added.Goals as goal

pub returns-clause-question : goal.returns-clause-question
returns-clause-question c = λ settings asks more q conclusion are h. comes-still settings asks more are h

pub returns-clause-cache : goal.returns-clause-cache
returns-clause-cache c = λ settings asks more cache are h. cache-still settings asks more are cache h

pub returns-clause-chain : goal.returns-clause-chain
returns-clause-chain c = λ settings asks more first last links are h. leads-still settings asks more are h
