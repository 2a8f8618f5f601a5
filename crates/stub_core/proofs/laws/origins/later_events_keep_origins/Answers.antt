use Rattle.stub_client.specs.Origins.{Brings, BringsClosely, LeadsOn, LeadsOnClosely}
use Rattle.stub_core.proofs.OriginsLaws.{from-still}
use Rattle.stub_core.proofs.laws.origins.later_events_keep_origins.Goals as goal

pub returns-clause-any : goal.returns-clause-any
returns-clause-any c = λ config history all now later cache part after h.
    from-still (Brings config) LeadsOn history all now later cache part after h

pub returns-clause-close : goal.returns-clause-close
returns-clause-close c = λ config history all now later cache part after h.
    from-still (BringsClosely config) LeadsOnClosely history all now later cache part after h
