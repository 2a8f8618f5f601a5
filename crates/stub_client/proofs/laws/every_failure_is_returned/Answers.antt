use Rattle.std.proofs.Common.{List, [], subst}
use Rattle.stub_client.specs.Handle.{Ask}
use Rattle.stub_client.specs.Looks.{Looks}
use Rattle.stub_client.proofs.PassingLaws.{failure-passes}
use Rattle.stub_client.proofs.laws.every_failure_is_returned.Goals as goal

pub returns : goal.returns
returns c = λ settings now old q asks reply new looks earlier last error same is failure.
    failure-passes settings now last error failure 0 [] old q earlier reply new is
    (subst (λ (xs : List Ask). Looks settings now 0 [] old q xs reply new) same looks)
