use Rattle.stub_client.specs.Origins.{IsBrought, IsBroughtClosely}
use Rattle.stub_core.proofs.OriginsLaws.{brings-all, brings-closely, host-comes}
use Rattle.stub_core.proofs.laws.origins.every_address_has_an_origin.Goals as goal

pub returns-clause-any : goal.returns-clause-any
returns-clause-any g c = λ now address name old new reply none looks.
    let config = old.client.cache.config in
    host-comes g.H.DnsHandle.gives now old new (IsBrought config) (brings-all config old.client.preserve_intermediates none)
    c.type_number_round_trips.ensures address name reply looks

pub returns-clause-close : goal.returns-clause-close
returns-clause-close g c = λ now address name old new reply none off looks.
    let config = old.client.cache.config in
    host-comes g.H.DnsHandle.gives now old new (IsBroughtClosely config)
    (brings-closely config old.client.preserve_intermediates off none)
    c.type_number_round_trips.ensures address name reply looks
