use Rattle.stub_run.proofs.ZoneQuestions.{all-answered}
use Rattle.stub_run.proofs.laws.questions.questions_without_faults_are_answered.Goals as goal

pub returns : goal.returns
returns c = all-answered
