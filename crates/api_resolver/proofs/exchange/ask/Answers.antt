use Rattle.std.proofs.Common.{◌≡◌, ap, ◌∙◌, rules}
use Rattle.dns_messages.specs.declared.query.Query.{Query}
use Rattle.stub_client.specs.Handle.{request_for}
use Rattle.api_resolver.proofs.AskLaws.{asks}
use Rattle.api_resolver.proofs.exchange.ask.Goals as goal

pub returns : goal.returns
returns c =
    let asked : c.in_ok-request.request ≡ request_for c.args.start.now.question c.args.settings.now.request =
    c.in_ok-request.ensures ∙ ap (λ (q : Query). request_for q c.args.settings.now.request) c.in_ok-clone-2.ensures.ok in
    asks c.args.settings.now c.args.start.now c.args.events.now c.in_ok-pool.pool c.new-handle.result.handle c.send-outcome.new.self.handle c.into_handle-pool.result
    c.in_ok-request.request c.send-outcome.result (search rules) c.new-handle.ensures asked c.send-outcome.ensures c.into_handle-pool.ensures
