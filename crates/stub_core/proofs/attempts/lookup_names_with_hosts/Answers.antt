use Rattle.std.proofs.Common.{◌≡◌, ◌∷◌, List, sym, subst, ◌∙◌}
use Rattle.std.specs.Vec.Iter.{into_iter_items}
use Rattle.dns_names.specs.Name.{DomainName}
use Rattle.stub_core.specs.Attempts.{AttemptsWithHosts}
use Rattle.stub_client.specs.Looks.{Answers}
use Rattle.stub_core.proofs.attempts.lookup_names_with_hosts.Goals as goal

pub returns : goal.returns
returns g c =
    let items : c.args.names.items ≡ c.in-Some.name ∷ into_iter_items c.next.new.self =
    sym c.into_iter-names.ensures.rest ∙ c.in-Some.ensures.cases.0 in
    subst (λ (names : List DomainName). AttemptsWithHosts c.args.hosts.now c.args.now (λ old q reply new. Answers g.C.DnsHandle.gives c.args.options c.args.now old q reply new) c.args.record_type c.args.client.now names c.attempt.result c.attempt.new.client) (sym items)
    (c.ask_with_hosts-first.result, c.ask_with_hosts-first.new.client, rw c.query-query.ensures at c.ask_with_hosts-first.ensures, c.attempt.ensures)
