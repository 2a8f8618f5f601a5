use Rattle.std.proofs.Common.{◌≡◌}
use Rattle.dns_messages.specs.Grammar.{ReadsQuestion}
use Rattle.dns_message_bytes.proofs.PassedLaws.{PassedItems}
use Rattle.dns_message_bytes.proofs.view.query_views.pass_queries.Given as goal

abbrev pub invariant-loop : goal.invariant-loop
invariant-loop l = record {
  passed : PassedItems (ReadsQuestion l.fn.decoder.bytes) l.fn.decoder.index l.counter l.decoder.index;
  same_bytes : l.decoder.bytes ≡ l.fn.decoder.bytes;
}
