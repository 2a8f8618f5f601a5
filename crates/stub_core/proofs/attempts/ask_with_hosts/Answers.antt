use Rattle.std.proofs.lemmas.Result.{err_from_is_err_and}
use Rattle.stub_hosts.specs.Hosts.{static_lookup}
use Rattle.stub_client.specs.Looks.{Answers}
use Rattle.stub_core.proofs.AttemptsLaws.{without-memory}
use Rattle.stub_core.proofs.attempts.ask_with_hosts.Goals as goal

pub returns-in_err-lookup : goal.returns-in_err-lookup
returns-in_err-lookup g c =
    let p = err_from_is_err_and c.from_residual.result c.from_residual.ensures.1 in
    rw (p.1, p.2) (without-memory (λ reply new. Answers g.C.DnsHandle.gives c.args.options c.args.now c.args.client.now c.args.query reply new) c.args.client.now
    (static_lookup c.args.hosts.now c.args.query c.args.now))
