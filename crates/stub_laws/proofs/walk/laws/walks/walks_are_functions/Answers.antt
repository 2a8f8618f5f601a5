use Rattle.stub_laws.proofs.WalkLaws.{walk-exists, walk-same}
use Rattle.stub_laws.proofs.walk.laws.walks.walks_are_functions.Goals as goal

pub returns-clause-same : goal.returns-clause-same
returns-clause-same c = walk-same

pub returns-clause-exists : goal.returns-clause-exists
returns-clause-exists c = λ zone kind budget name good. walk-exists zone kind good budget name
