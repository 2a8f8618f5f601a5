use Rattle.stub_link.specs.Link.{calls_of, wire}
use Rattle.stub_link.specs.WireHandle.{asker_of}
use Rattle.stub_link.proofs.OutcomeLaws.{question-ends}
use Rattle.stub_link.proofs.laws.questions.questions_end_in_replies_or_faults.Goals as goal

pub returns : goal.returns
returns g c = λ old new request q now outcome is asks.
    question-ends wire (calls_of g.L.Link.sends g.L.Link.receives g.L.Link.streams) request.message q (asker_of old) outcome
    (asker_of new) is asks.ask
