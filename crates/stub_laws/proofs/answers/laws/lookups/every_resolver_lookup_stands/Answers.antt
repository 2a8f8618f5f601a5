use Rattle.stub_core.specs.Origins.{HasNoMinima}
use Rattle.stub_core.specs.Resolver.{request_options}
use Rattle.stub_laws.specs.answers.Failing.{FailsIndeed, failed_questions}
use Rattle.stub_laws.specs.answers.Standing.{IsDeep}
use Rattle.stub_laws.specs.answers.Claims.{HasNoNegativeMinima, longest_of}
use Rattle.stub_laws.proofs.ClaimLaws.{own-least}
use Rattle.stub_laws.proofs.AnswersResolverLaws.{host-keeps, name-keeps}
use Rattle.stub_laws.proofs.StandingLaws.{deep-first, finds-outlast, lacks-outlast, special-hold}
use Rattle.stub_laws.proofs.answers.laws.lookups.every_resolver_lookup_stands.Goals as goal

pub returns-clause-name : goal.returns-clause-name
returns-clause-name g c = λ origin history now name kind old new reply looks.
    name-keeps g.H.DnsHandle.gives now old new (HasNoMinima old.client.cache.config) (HasNoNegativeMinima old.client.cache.config)
    (longest_of old.client.cache.config) _ _ _
    (λ asks q at error. FailsIndeed old.client.preserve_intermediates origin (request_options old.settings.options) history (failed_questions asks) q at error)
    (λ depth q. IsDeep old.client.preserve_intermediates history now depth q)
    (finds-outlast old.client.cache.config old.client.preserve_intermediates history) (lacks-outlast old.client.cache.config old.client.preserve_intermediates origin history)
    (special-hold old.client.cache.config old.client.preserve_intermediates origin history)
    (deep-first old.client.preserve_intermediates history now) (own-least old.client.cache.config) c.type_number_round_trips.ensures name kind reply looks

pub returns-clause-host : goal.returns-clause-host
returns-clause-host g c = λ origin history now address name old new reply looks.
    host-keeps g.H.DnsHandle.gives now old new (HasNoMinima old.client.cache.config) (HasNoNegativeMinima old.client.cache.config)
    (longest_of old.client.cache.config) _ _ _
    (λ asks q at error. FailsIndeed old.client.preserve_intermediates origin (request_options old.settings.options) history (failed_questions asks) q at error)
    (λ depth q. IsDeep old.client.preserve_intermediates history now depth q)
    (finds-outlast old.client.cache.config old.client.preserve_intermediates history) (lacks-outlast old.client.cache.config old.client.preserve_intermediates origin history)
    (special-hold old.client.cache.config old.client.preserve_intermediates origin history)
    (deep-first old.client.preserve_intermediates history now) (own-least old.client.cache.config) c.type_number_round_trips.ensures address name reply looks
