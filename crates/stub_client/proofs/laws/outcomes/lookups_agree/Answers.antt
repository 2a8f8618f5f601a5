use Rattle.stub_client.proofs.AgreementLaws.{lookups-agree}
use Rattle.stub_client.proofs.laws.outcomes.lookups_agree.Goals as goal

pub returns : goal.returns
returns c = λ settings now old q outcomes asks others reply answer new next looks sees first second enough ample.
    lookups-agree settings now old q outcomes asks others reply answer new next looks sees first second enough ample
