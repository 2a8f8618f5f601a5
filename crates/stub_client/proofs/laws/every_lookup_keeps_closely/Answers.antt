use Rattle.stub_client.proofs.ClaimLaws.{lookup-keeps}
use Rattle.stub_client.proofs.ClaimSteps.{all-steps-closely, no-aliases}
use Rattle.stub_client.proofs.laws.every_lookup_keeps_closely.Goals as goal

pub returns : goal.returns
returns g c = λ outlasts loopback settings now old q asks reply new looks off none holds bears.
    lookup-keeps g.C.Claim.holds outlasts loopback settings now 0 _ old q asks reply new none (no-aliases settings q) holds
    (all-steps-closely g.C.Claim.holds settings off old.config now asks bears) looks
