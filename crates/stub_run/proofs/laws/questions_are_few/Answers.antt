use Rattle.stub_run.proofs.Counting.{lookup-few, question-few, update-few}
use Rattle.stub_run.proofs.laws.questions_are_few.Goals as goal

pub returns-clause-question : goal.returns-clause-question
returns-clause-question c = λ old new request now outcome asked memory. question-few old new request now outcome asked memory

pub returns-clause-lookup : goal.returns-clause-lookup
returns-clause-lookup c = λ options now old new q reply answers memory.
    lookup-few options now old.handle answers.asks new.handle answers.led answers.few memory

pub returns-clause-update : goal.returns-clause-update
returns-clause-update c = λ old new update reply sends memory. update-few old new update reply sends memory
