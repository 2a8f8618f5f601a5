use Rattle.stub_laws.proofs.SourcesLaws.{host-has-sources, name-has-sources}
use Rattle.stub_laws.proofs.answers.laws.sources.every_answer_has_a_source.Goals as goal

pub returns-clause-name : goal.returns-clause-name
returns-clause-name g c = λ origin history now name kind old new reply looks.
    name-has-sources c.answers_are_alias_chains.ensures origin history g.H.DnsHandle.gives now old new name kind reply looks

pub returns-clause-host : goal.returns-clause-host
returns-clause-host g c = λ origin history now address name old new reply looks.
    host-has-sources c.answers_are_alias_chains.ensures origin history g.H.DnsHandle.gives now old new address name reply looks
