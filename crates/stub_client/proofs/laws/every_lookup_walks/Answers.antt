use Rattle.stub_client.proofs.ConclusionLaws.{lookup-comes}
use Rattle.stub_client.proofs.laws.every_lookup_walks.Goals as goal

pub returns : goal.returns
returns g c = λ respells names settings now old q asks reply new looks off within holds bears.
    lookup-comes g.R.Conclusions.comes_to respells names g.R.Conclusions.within settings now 0 old q asks reply new off within holds bears looks
