use Rattle.stub_laws.proofs.ResolverLaws.{host-walks, name-walks}
use Rattle.stub_laws.proofs.walk.laws.lookups.every_resolver_lookup_comes_to_walks.Goals as goal

pub returns-clause-name : goal.returns-clause-name
returns-clause-name g c = λ zone good now name kind old new reply off looks.
    name-walks zone good g.H.DnsHandle.gives now old new off name kind reply looks

pub returns-clause-host : goal.returns-clause-host
returns-clause-host g c = λ zone good now address name old new reply off looks.
    host-walks zone good g.H.DnsHandle.gives now old new off address name reply looks
