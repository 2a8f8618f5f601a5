use Rattle.stub_client.specs.Origins.{BringsClosely, LeadsOnClosely}
use Rattle.stub_client.proofs.OriginsLaws.{cache-still, comes-still}
use Rattle.stub_client.proofs.laws.origins.later_questions_keep_closely.Goals as goal

pub returns-clause-records : goal.returns-clause-records
returns-clause-records c = λ config history all q now r part h. comes-still (BringsClosely config) LeadsOnClosely history all part h

pub returns-clause-caches : goal.returns-clause-caches
returns-clause-caches c = λ config history all now later cache part after h.
    cache-still (BringsClosely config) LeadsOnClosely history all now later cache part after h
