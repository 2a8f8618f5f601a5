use Rattle.std.proofs.Common.{List, ℕ, Option, Some, ap, option_map, subst, sym}
use Rattle.dns_sockets.specs.Handler.{message_bytes}
use Rattle.nameserver_handlers.specs.ByRules.{IsCutIf}
use Rattle.nameserver_handlers.proofs.handler.RequestHandler.edited.Goals as goal

pub returns : goal.returns
returns g c = record {
  cut = Some c.in_ok-reply.reply.items;
  is_cut = subst (λ (reply : Option (List ℕ)). IsCutIf c.args.decided.now.decision.fault.truncate c.args.self.now.settings.policy.keys.items c.args.request.now.bytes.now c.args.time reply (Some c.in_ok-reply.reply.items))
      (sym (ap (option_map message_bytes) c.in-Some.is)) c.in_ok-reply.ensures;
  edited_is = ap (λ bytes. Some bytes) c.in_ok-edited_reply.ensures;
}
