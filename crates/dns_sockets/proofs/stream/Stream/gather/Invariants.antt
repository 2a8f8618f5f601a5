-- The messages that were gathered are the first, and the others are left. The replies are as they were.
use Rattle.std.proofs.Common.{map}
use Rattle.dns_sockets.specs.Handler.{message_bytes}
use Rattle.dns_sockets.specs.StreamSteps.{AreTaken, KeepsReplies}
use Rattle.dns_sockets.proofs.stream.Stream.gather.Given as goal

abbrev pub invariant-loop-request : goal.invariant-loop-request
invariant-loop-request g l = record {
  taken : AreTaken l.initial.self.connection.input (map message_bytes l.gathered.items) l.self.connection.input;
  kept : KeepsReplies l.initial.self l.self;
}
