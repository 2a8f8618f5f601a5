use Rattle.std.proofs.Common.{[], List, subst}
use Rattle.stub_client.specs.Handle.{Ask}
use Rattle.stub_client.specs.Looks.{Looks}
use Rattle.stub_client.proofs.AgreementLaws.{asks-no-other}
use Rattle.stub_client.proofs.laws.outcomes.one_question_is_enough.Goals as goal

pub returns : goal.returns
returns c = λ settings now old q asks reply new looks first others response is outcome answers.
    asks-no-other settings now old q first others reply new response
    (subst (λ (xs : List Ask). Looks settings now 0 [] old q xs reply new) is looks) outcome answers
