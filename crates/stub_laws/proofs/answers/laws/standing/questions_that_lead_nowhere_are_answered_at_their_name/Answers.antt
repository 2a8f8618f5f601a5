use Rattle.stub_laws.proofs.AnswersSteadyLaws.{absent-here, set-here}
use Rattle.stub_laws.proofs.answers.laws.standing.questions_that_lead_nowhere_are_answered_at_their_name.Goals as goal

pub returns-clause-found : goal.returns-clause-found
returns-clause-found c = λ preserves rows greatest now q records nowhere s. set-here preserves rows now q nowhere greatest records s

pub returns-clause-absent : goal.returns-clause-absent
returns-clause-absent c = λ config preserves origin rows age now q absence nowhere a. absent-here preserves rows now q nowhere config origin age absence a
