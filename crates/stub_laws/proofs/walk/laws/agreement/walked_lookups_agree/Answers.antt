use Rattle.stub_laws.proofs.AgreementLaws.{looks-up-agree, looks-up-host-agree}
use Rattle.stub_laws.proofs.walk.laws.agreement.walked_lookups_agree.Goals as goal

pub returns-clause-name : goal.returns-clause-name
returns-clause-name c = λ zone settings now later name kind one other h k. looks-up-agree zone now later settings tt tt one other tt tt name kind h k

pub returns-clause-host : goal.returns-clause-host
returns-clause-host c = λ zone settings now later address name one other h k.
    looks-up-host-agree zone now later settings tt tt one other tt tt address name h k
