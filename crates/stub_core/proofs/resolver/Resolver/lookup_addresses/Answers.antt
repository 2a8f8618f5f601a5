use Rattle.stub_core.proofs.ResolverLaws.{answers-addresses}
use Rattle.stub_core.proofs.resolver.Resolver.lookup_addresses.Goals as goal

pub returns-clause-lookup : goal.returns-clause-lookup
returns-clause-lookup g c =
    answers-addresses g.H.DnsHandle.gives c.args.now c.args.self.now c.args.name.now c.request_options-options.result
    c.in_ok-names.names.items c.args.self.now.client c.lookup_ip_names.result c.lookup_ip_names.new.client
    c.request_options-options.ensures c.in_ok-names.ensures c.args.finally_ip_addr c.lookup_ip_names.ensures
