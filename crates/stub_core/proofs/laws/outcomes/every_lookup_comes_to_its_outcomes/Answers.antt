use Rattle.stub_core.proofs.ResolvesLaws.{host-comes, name-comes}
use Rattle.stub_core.proofs.laws.outcomes.every_lookup_comes_to_its_outcomes.Goals as goal

pub returns-clause-name : goal.returns-clause-name
returns-clause-name g c = λ now name kind old new reply off looks.
    name-comes g.H.DnsHandle.gives now old new off name kind reply looks

pub returns-clause-host : goal.returns-clause-host
returns-clause-host g c = λ now address name old new reply off looks.
    host-comes g.H.DnsHandle.gives now old new off address name reply looks
