use Rattle.std.proofs.Common.{◌≡◌, length}
use Rattle.dns_messages.specs.Grammar.{ReadsQuestion}
use Rattle.dns_wire.specs.Decodable.{Follow}
use Rattle.dns_messages.proofs.read.read_questions.Given as goal

abbrev pub invariant-loop-nth : goal.invariant-loop-nth
invariant-loop-nth l = record {
  so_far : Follow (ReadsQuestion l.fn.decoder.bytes) l.fn.decoder.index l.queries l.decoder.index;
  count_is : length l.queries ≡ l.nth;
  same_bytes : l.decoder.bytes ≡ l.fn.decoder.bytes;
}
