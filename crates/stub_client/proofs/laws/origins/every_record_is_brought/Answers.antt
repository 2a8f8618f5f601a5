use Rattle.stub_client.proofs.OriginsLaws.{brought}
use Rattle.stub_client.proofs.laws.origins.every_record_is_brought.Goals as goal

pub returns : goal.returns
returns c = λ history settings now old q asks reply new looks none part holds.
    brought history settings now old q asks reply new looks none part holds
