use Rattle.stub_link.specs.Link.{messages}
use Rattle.stub_link.specs.LinkState.{link_calls}
use Rattle.stub_laws.proofs.FaultLaws.{ask-fails, zone-outcome}
use Rattle.stub_laws.proofs.walk.laws.outcomes.questions_fail_by_faults.Goals as goal

pub returns-clause-errors : goal.returns-clause-errors
returns-clause-errors c = λ m q old new outcome error is asks. ask-fails messages link_calls m q old outcome new is asks error

pub returns-clause-outcome : goal.returns-clause-outcome
returns-clause-outcome c = zone-outcome
