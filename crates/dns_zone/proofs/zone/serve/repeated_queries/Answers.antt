use Rattle.std.proofs.Common.{sym}
use Rattle.dns_zone.proofs.RequestLaws.{query_fits}
use Rattle.dns_zone.proofs.zone.serve.repeated_queries.Goals as goal

pub returns-in-Query-clause-front : goal.returns-in-Query-clause-front
returns-in-Query-clause-front c =
    query_fits c.args.request.now c.as_slice.result.now c.only.result.now c.in-Query.is (sym c.as_slice.ensures) c.only.ensures.value c.only.ensures.short
