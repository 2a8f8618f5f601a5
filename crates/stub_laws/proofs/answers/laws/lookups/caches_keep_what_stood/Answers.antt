use Rattle.stub_core.specs.Origins.{HasNoMinima}
use Rattle.stub_laws.specs.answers.Claims.{HasNoNegativeMinima, longest_of}
use Rattle.stub_laws.proofs.GrowingLaws.{cache-on}
use Rattle.stub_laws.proofs.AnswersResolverLaws.{held-cleared, held-empty, held-later}
use Rattle.stub_laws.proofs.answers.laws.lookups.caches_keep_what_stood.Goals as goal

pub returns-clause-later : goal.returns-clause-later
returns-clause-later c = λ config preserves origin history now later cache after h.
    held-later (HasNoMinima config) (HasNoNegativeMinima config) (longest_of config) _ _ now later cache after h

pub returns-clause-on : goal.returns-clause-on
returns-clause-on c = λ config preserves origin history other now cache on h. cache-on preserves history other config origin now cache on h

pub returns-clause-cleared : goal.returns-clause-cleared
returns-clause-cleared c = λ config preserves origin history now cache settings name kind h.
    held-cleared (HasNoMinima config) (HasNoNegativeMinima config) (longest_of config) _ _ now cache settings name kind h

pub returns-clause-empty : goal.returns-clause-empty
returns-clause-empty c = λ config preserves origin history now cache. held-empty (HasNoMinima config) (HasNoNegativeMinima config) (longest_of config) _ _ now cache
