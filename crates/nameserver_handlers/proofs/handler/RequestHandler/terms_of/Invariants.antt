-- The first requests have their terms.
use Rattle.std.proofs.Common.{map, take}
use Rattle.dns_sockets.specs.Handler.{request_content}
use Rattle.nameserver_handlers.specs.Handling.{AreTerms}
use Rattle.nameserver_handlers.proofs.handler.RequestHandler.terms_of.Given as goal

abbrev pub invariant-loop-request : goal.invariant-loop-request
invariant-loop-request g l = AreTerms l.self.settings (map request_content (take l.request-index l.requests)) l.terms.items
