use Rattle.std.proofs.Common.{◌≡◌, ap, subst, ◌∙◌}
use Rattle.std.proofs.lemmas.Result.{err_from_is_err_and}
use Rattle.dns_names.specs.Name.{DomainName}
use Rattle.dns_messages.specs.declared.query.Query.{Query}
use Rattle.stub_hosts.specs.Hosts.{question, static_lookup}
use Rattle.stub_core.specs.Attempts.{WithHosts}
use Rattle.stub_client.specs.Looks.{Answers}
use Rattle.stub_core.proofs.AttemptsLaws.{without-memory}
use Rattle.stub_core.proofs.strategies.one_name.one.Goals as goal

pub returns-in_err-clone : goal.returns-in_err-clone
returns-in_err-clone g c =
    let p = err_from_is_err_and c.from_residual.result c.from_residual.ensures.1 in
    let asked = question c.args.name.now c.args.record_type in
    rw (p.1, p.2) (without-memory (λ reply new. Answers g.C.DnsHandle.gives c.args.options c.args.now c.args.client.now asked reply new) c.args.client.now
    (static_lookup c.args.hosts.now asked c.args.now))

pub returns : goal.returns
returns g c =
    let asked : c.query-query.result ≡ question c.args.name.now c.args.record_type =
    c.query-query.ensures ∙ ap (λ (name : DomainName). question name c.args.record_type) c.in_ok-clone.ensures.ok in
    subst (λ (q : Query). WithHosts c.args.hosts.now c.args.now (λ old q reply new. Answers g.C.DnsHandle.gives c.args.options c.args.now old q reply new) c.args.client.now q c.ask_with_hosts.result c.ask_with_hosts.new.client) asked c.ask_with_hosts.ensures
