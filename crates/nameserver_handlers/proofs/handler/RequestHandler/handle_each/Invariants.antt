-- The first requests are answered.
use Rattle.std.proofs.Common.{map, take}
use Rattle.dns_sockets.specs.Handler.{request_content}
use Rattle.nameserver_handlers.specs.ByRules.{AnswersEach}
use Rattle.nameserver_handlers.specs.Handling.{keeping}
use Rattle.nameserver_handlers.proofs.handler.RequestHandler.handle_each.Given as goal

abbrev pub invariant-loop-request : goal.invariant-loop-request
invariant-loop-request g l = AnswersEach g.S.Storage.performs (keeping l.initial.self) (map request_content (take l.request-index l.requests)) l.deliveries.items (keeping l.self)
