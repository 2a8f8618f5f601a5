use Rattle.stub_laws.proofs.AnswersStepLaws.{ask-bears}
use Rattle.stub_laws.proofs.answers.laws.lookups.answers_that_stood_bear_out.Goals as goal

pub returns : goal.returns
returns c = λ origin options history failed config settings now ask zones answered reason.
    ask-bears c.answers_are_alias_chains.ensures origin options history failed zones config settings now ask answered reason
