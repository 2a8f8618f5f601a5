use Rattle.stub_client.proofs.ClaimLaws.{lookup-keeps}
use Rattle.stub_client.proofs.ClaimSteps.{all-steps, no-aliases}
use Rattle.stub_client.proofs.laws.every_lookup_keeps.Goals as goal

pub returns : goal.returns
returns g c = λ outlasts loopback settings now old q asks reply new looks none holds bears.
    lookup-keeps g.C.Claim.holds outlasts loopback settings now 0 _ old q asks reply new none (no-aliases settings q) holds
    (all-steps g.C.Claim.holds outlasts settings old.config now asks bears) looks
