use Rattle.stub_laws.proofs.GrowingLaws.{led-here, led-reached}
use Rattle.stub_laws.proofs.answers.laws.standing.questions_lead_along_aliases.Goals as goal

pub returns-clause-reached : goal.returns-clause-reached
returns-clause-reached c = λ preserves history now kind from to links other led. led-reached other led

pub returns-clause-here : goal.returns-clause-here
returns-clause-here c = λ preserves history now kind from to links is led. led-here is led
