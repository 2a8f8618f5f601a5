-- What is asked of the pool of an exchange.
use Rattle.std.proofs.Common.{◌≡◌, List, subst, sym}
use Rattle.stub_client.specs.Handle.{Outcome, request_for}
use Rattle.stub_client.specs.declared.request.DnsRequest.{DnsRequest}
use Rattle.stub_net.specs.scrub.Scrub.{Gives}
use Rattle.api_resolver.specs.Exchange.{Asks, IsPool, Pool, pool_gives}
use Rattle.api_resolver.specs.declared.event.Event.{Event}
use Rattle.api_resolver.specs.declared.exchange.ExchangeSettings.{ExchangeSettings}
use Rattle.api_resolver.specs.declared.exchange.Start.{Start}

pub asks : (settings : ExchangeSettings) (start : Start) (events : List Event) (pool first new last : Pool) (request : DnsRequest) (outcome : Outcome)
    → IsPool settings start events pool → first ≡ pool → request ≡ request_for start.question settings.request
    → Gives pool_gives first request 0 outcome new → last ≡ new → Asks settings start events outcome last
asks settings start events pool first new last request outcome is_pool same asked gives after = record {
  pool = pool;
  is_pool = is_pool;
  gives =
      let by_request : Gives pool_gives first (request_for start.question settings.request) 0 outcome new =
      subst (λ (r : DnsRequest). Gives pool_gives first r 0 outcome new) asked gives in
      let by_pool : Gives pool_gives pool (request_for start.question settings.request) 0 outcome new =
      subst (λ (p : Pool). Gives pool_gives p (request_for start.question settings.request) 0 outcome new) same by_request in
      subst (λ (p : Pool). Gives pool_gives pool (request_for start.question settings.request) 0 outcome p) (sym after) by_pool;
}
