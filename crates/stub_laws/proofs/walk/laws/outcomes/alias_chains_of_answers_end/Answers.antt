use Rattle.stub_laws.proofs.ComingLaws.{chains-end}
use Rattle.stub_laws.proofs.walk.laws.outcomes.alias_chains_of_answers_end.Goals as goal

pub returns : goal.returns
returns c = λ zone settings asks good short off asked ordinary plain. chains-end zone good settings off asks asked ordinary plain short
