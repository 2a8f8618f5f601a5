use Rattle.stub_laws.proofs.ComingLaws.{comes-agree}
use Rattle.stub_laws.proofs.walk.laws.outcomes.outcomes_of_answers_are_walks.Goals as goal

pub returns : goal.returns
returns c = λ zone settings asks q conclusion good off asked ordinary comes. comes-agree zone good settings off asks asked ordinary comes
