use Rattle.stub_laws.proofs.FaithfulLaws.{ask-answers, ask-stays}
use Rattle.stub_laws.proofs.history.laws.asking.outcomes_hold_answers_that_stood.Goals as goal

pub returns-clause-stays : goal.returns-clause-stays
returns-clause-stays c = λ origin m old new outcome f x. ask-stays c.updates_keep_zones_well_formed.ensures origin old f m outcome new x

pub returns-clause-answers : goal.returns-clause-answers
returns-clause-answers c = λ origin m q old new outcome later f x only once.
    ask-answers c.updates_keep_zones_well_formed.ensures origin old f m outcome new x q later only once
