use Rattle.stub_link.proofs.HistoryLaws.{ask-keeps, begin-asks, begin-past}
use Rattle.stub_link.proofs.laws.questions_keep_the_history.Goals as goal

pub returns-clause-begins : goal.returns-clause-begins
returns-clause-begins c = λ moment script state h. (begin-asks moment script state h, begin-past moment script state h)

pub returns-clause-asks : goal.returns-clause-asks
returns-clause-asks c = λ m old new outcome a x. ask-keeps m old outcome new a x
