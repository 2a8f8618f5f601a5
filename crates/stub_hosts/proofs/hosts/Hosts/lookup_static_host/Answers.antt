use Rattle.std.proofs.Common.{◌≡◌, sym, ◌∙◌}
use Rattle.dns_wire.specs.codes.RecordType.{type_of, type_number}
use Rattle.stub_hosts.proofs.HostsLaws.{other_type_unknown}
use Rattle.stub_hosts.proofs.hosts.Hosts.lookup_static_host.Goals as goal

pub returns-in_default-clause-found : goal.returns-in_default-clause-found
returns-in_default-clause-found c =
    let is : c.canonical.result ≡ type_of (type_number c.args.query.now.query_type) = c.canonical.ensures in
    sym (other_type_unknown c.args.self.now c.args.query.now c.args.now (type_of (type_number c.args.query.now.query_type))
    (λ e. c.in_default.not-A (is ∙ e)) (λ e. c.in_default.not-AAAA (is ∙ e)) (λ e. c.in_default.not-PTR (is ∙ e)))
