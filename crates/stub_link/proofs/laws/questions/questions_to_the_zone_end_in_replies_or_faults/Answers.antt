use Rattle.stub_link.proofs.OutcomeLaws.{zone-question-ends}
use Rattle.stub_link.proofs.laws.questions.questions_to_the_zone_end_in_replies_or_faults.Goals as goal

pub returns : goal.returns
returns c = zone-question-ends
