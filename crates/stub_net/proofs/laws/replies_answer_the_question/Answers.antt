use Rattle.stub_net.proofs.ReplyLaws.{gives-answer}
use Rattle.stub_net.proofs.laws.replies_answer_the_question.Goals as goal

pub returns : goal.returns
returns g c = λ m old new response e. gives-answer _ _ m old new response e
