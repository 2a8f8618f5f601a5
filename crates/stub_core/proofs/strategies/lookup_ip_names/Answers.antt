use Rattle.std.proofs.Common.{List, sym, subst}
use Rattle.dns_names.specs.Name.{DomainName}
use Rattle.stub_core.specs.Attempts.{Attempts}
use Rattle.stub_client.specs.Looks.{Reply}
use Rattle.stub_core.specs.Strategies.{EndsWith}
use Rattle.stub_core.proofs.StrategiesLaws.{OfAddresses}
use Rattle.stub_core.proofs.strategies.lookup_ip_names.Goals as goal

pub returns : goal.returns
returns g c = (
  c.attempt-last.result,
  (
    c.no_addresses.result,
    c.no_addresses.ensures,
    subst (λ (names : List DomainName). Attempts (OfAddresses g.C.DnsHandle.gives c.args.options c.args.strategy c.args.hosts.now c.args.now) c.no_addresses.result c.args.client.now names c.attempt-last.result c.attempt-last.new.client)
        c.into_iter-names.ensures.rest c.attempt-last.ensures,
  ),
  subst (λ (reply : Reply). EndsWith c.args.finally_ip_addr c.args.now c.attempt-last.result reply) (sym c.addresses.ensures) c.or_fallback.ensures,
)
