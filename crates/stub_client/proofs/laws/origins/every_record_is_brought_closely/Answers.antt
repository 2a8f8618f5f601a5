use Rattle.stub_client.proofs.OriginsLaws.{brought-closely}
use Rattle.stub_client.proofs.laws.origins.every_record_is_brought_closely.Goals as goal

pub returns : goal.returns
returns c = λ history settings now old q asks reply new looks off none part holds.
    brought-closely history settings now old q asks reply new looks none part off holds
