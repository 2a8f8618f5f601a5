use Rattle.stub_client.proofs.ClaimLaws.{holds-later}
use Rattle.stub_client.proofs.laws.every_later_moment_keeps.Goals as goal

pub returns : goal.returns
returns g c = λ now later cache after holds. holds-later g.C.Claim.holds now later cache after holds
