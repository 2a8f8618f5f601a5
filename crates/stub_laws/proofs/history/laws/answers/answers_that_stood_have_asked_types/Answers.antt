use Rattle.stub_laws.proofs.AskedTypeLaws.{asked-types}
use Rattle.stub_laws.proofs.history.laws.answers.answers_that_stood_have_asked_types.Goals as goal

pub returns : goal.returns
returns c = λ origin history asked zones answered. asked-types c.answers_are_alias_chains.ensures origin history zones asked answered
