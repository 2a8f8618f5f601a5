use Rattle.stub_client.proofs.PassingLaws.{settings-stay}
use Rattle.stub_client.proofs.laws.every_lookup_keeps_the_bounds.Goals as goal

pub returns : goal.returns
returns c = λ settings now old q asks reply new looks. settings-stay settings now 0 _ old q asks reply new looks
