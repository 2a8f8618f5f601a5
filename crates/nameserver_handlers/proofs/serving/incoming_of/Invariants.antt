-- The first requests are there, with their terms.
use Rattle.std.proofs.Common.{map, take}
use Rattle.dns_sockets.specs.Handler.{request_content}
use Rattle.nameserver_handlers.specs.Handling.{AreIncoming}
use Rattle.nameserver_handlers.proofs.serving.incoming_of.Given as goal

abbrev pub invariant-loop-index : goal.invariant-loop-index
invariant-loop-index l = AreIncoming (map request_content (take l.index l.requests)) (take l.index l.terms) l.incoming.items
