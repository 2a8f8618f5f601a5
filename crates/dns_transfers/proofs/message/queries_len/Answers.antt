use Rattle.std.proofs.Common.{arith}
use Rattle.dns_transfers.proofs.MessageLaws.{one_query_len, only_item}
use Rattle.dns_transfers.proofs.message.queries_len.Goals as goal

pub returns-clause-value : goal.returns-clause-value
returns-clause-value c =
    omega (arith, one_query_len c.args.queries.now c.query-item.result (only_item c.args.queries.now c.query-item.result c.in-len1.len_at_least c.in-len1.len_below c.query-item.is), c.encoded_len.ensures.value)
