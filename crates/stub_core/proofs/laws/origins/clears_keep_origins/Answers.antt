use Rattle.stub_client.specs.Origins.{IsBrought, IsBroughtClosely}
use Rattle.stub_core.proofs.OriginsLaws.{from-cleared, from-empty}
use Rattle.stub_core.proofs.laws.origins.clears_keep_origins.Goals as goal

pub returns-clause-any : goal.returns-clause-any
returns-clause-any c = λ config history now cache settings name kind h.
    from-cleared (IsBrought config) history now cache settings name kind h

pub returns-clause-close : goal.returns-clause-close
returns-clause-close c = λ config history now cache settings name kind h.
    from-cleared (IsBroughtClosely config) history now cache settings name kind h

pub returns-clause-empty : goal.returns-clause-empty
returns-clause-empty c = λ config history now cache. from-empty (IsBrought config) history now cache

pub returns-clause-empty_close : goal.returns-clause-empty_close
returns-clause-empty_close c = λ config history now cache. from-empty (IsBroughtClosely config) history now cache
