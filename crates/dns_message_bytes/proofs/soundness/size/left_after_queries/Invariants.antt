use Rattle.std.proofs.Common.{◌≡◌, ◌+◌, drop}
use Rattle.dns_messages.specs.Cut.{items_len, query_item}
use Rattle.dns_message_bytes.proofs.soundness.size.left_after_queries.Given as goal

-- what is left has room for the questions that are left exactly if there was room for all
abbrev pub invariant-loop-query : goal.invariant-loop-query
invariant-loop-query l = l.left + items_len query_item l.queries ≡ l.fn.left + items_len query_item (drop l.query-index l.queries)
