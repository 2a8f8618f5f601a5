use Rattle.stub_laws.proofs.AnswersSteadyLaws.{short-ends}
use Rattle.stub_laws.proofs.answers.laws.standing.short_chains_are_followed_to_their_end.Goals as goal

pub returns : goal.returns
returns c = short-ends
