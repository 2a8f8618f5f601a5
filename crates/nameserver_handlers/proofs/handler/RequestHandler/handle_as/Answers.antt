use Rattle.std.proofs.Common.{Bool, List, ℕ, Option, Some, ap, option_map, subst}
use Rattle.dns_sockets.specs.Handler.{message_bytes, request_content}
use Rattle.nameserver_handlers.specs.ByRules.{TransferredUnless}
use Rattle.nameserver_handlers.specs.Handling.{keeping}
use Rattle.nameserver_handlers.proofs.handler.RequestHandler.handle_as.Goals as goal

pub returns-in-Some-clause-ok : goal.returns-in-Some-clause-ok
returns-in-Some-clause-ok g c =
    let s = keeping c.args.self.now in (
      Some c.in-Some.reply.items,
      (
        subst (λ (stopped : Bool). TransferredUnless stopped s (request_content c.args.request.now) (Some c.in-Some.reply.items)) c.stops.ensures
            (subst (λ (found : Option (List ℕ)). TransferredUnless c.stops.result s (request_content c.args.request.now) found) (ap (option_map message_bytes) c.in-Some.is) c.in_ok-reply.ensures),
        (c.plain.ensures, c.append_log.ensures.kept),
      ),
    )
