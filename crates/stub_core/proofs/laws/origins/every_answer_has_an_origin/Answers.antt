use Rattle.stub_client.specs.Origins.{IsBrought, IsBroughtClosely}
use Rattle.stub_core.proofs.OriginsLaws.{brings-all, brings-closely, name-comes}
use Rattle.stub_core.proofs.laws.origins.every_answer_has_an_origin.Goals as goal

pub returns-clause-any : goal.returns-clause-any
returns-clause-any g c = λ now name kind old new reply none resolves.
    let config = old.client.cache.config in
    name-comes g.H.DnsHandle.gives now old new (IsBrought config) (brings-all config old.client.preserve_intermediates none)
    c.type_number_round_trips.ensures name kind reply resolves.lookup

pub returns-clause-close : goal.returns-clause-close
returns-clause-close g c = λ now name kind old new reply none off resolves.
    let config = old.client.cache.config in
    name-comes g.H.DnsHandle.gives now old new (IsBroughtClosely config)
    (brings-closely config old.client.preserve_intermediates off none)
    c.type_number_round_trips.ensures name kind reply resolves.lookup
