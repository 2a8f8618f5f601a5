use Rattle.stub_client.proofs.ErrorsLaws.{error-ends}
use Rattle.stub_client.proofs.laws.outcomes.every_error_is_an_outcome.Goals as goal

pub returns : goal.returns
returns c = λ settings now old q asks reply new looks error fails failure memory.
    error-ends error failure memory settings now 0 _ old q asks reply new looks fails
