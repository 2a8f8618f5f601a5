use Rattle.stub_core.proofs.ResolverLaws.{answers-name}
use Rattle.stub_core.proofs.resolver.Resolver.lookup_name.Goals as goal

pub returns-clause-lookup : goal.returns-clause-lookup
returns-clause-lookup g c =
    answers-name g.H.DnsHandle.gives c.args.now c.args.self.now c.args.name.now c.request_options-options.result
    c.in_ok-names.names.items c.args.self.now.client c.lookup_names_with_hosts.result c.lookup_names_with_hosts.new.client
    c.request_options-options.ensures c.in_ok-names.ensures c.args.record_type c.lookup_names_with_hosts.ensures
