use Rattle.std.proofs.Common.{◌∙◌, [], ◌∷◌, ap, option_map, subst, sym}
use Rattle.dns_sockets.specs.Handler.{message_bytes, request_content}
use Rattle.nameserver_handlers.specs.ByRules.{ByService}
use Rattle.nameserver_handlers.specs.Handling.{Keeping, LeavesTogether, keeping, recorded_bytes}
use Rattle.nameserver_handlers.proofs.RuleLaws.{on_error, service_leaves}
use Rattle.nameserver_handlers.proofs.handler.RequestHandler.handle_by_rule.Goals as goal

pub returns-in_err-reply-2-clause-err : goal.returns-in_err-reply-2-clause-err
returns-in_err-reply-2-clause-err g c =
    on_error c.from_residual-in_err-reply-2.result _
    (subst (λ (k : Keeping g.row.S.Denot). LeavesTogether g.S.Storage.performs (keeping c.args.self.now) (request_content c.args.request.now ∷ []) k) (sym c.notify.ensures)
    (service_leaves g.S.Storage.performs (keeping c.args.self.now) (keeping c.serve_by.new.self) (request_content c.args.request.now) c.terms-terms.result c.terms-terms.ensures c.args.decided.now.decision.fault.service c.args.decided.now.request
    (recorded_bytes c.in_ok-reply.field-0) c.in_ok-reply.ensures.ok))

pub returns-clause-ok : goal.returns-clause-ok
returns-clause-ok g c = record {
  terms = c.terms-terms.result;
  are_terms = c.terms-terms.ensures;
  reply = recorded_bytes c.in_ok-reply.field-0;
  mid = keeping c.notify.new.self;
  served = subst (λ (k : Keeping g.row.S.Denot). ByService g.S.Storage.performs c.args.decided.now.decision.fault.service (keeping c.args.self.now) (request_content c.args.request.now)
      c.terms-terms.result c.args.decided.now.request (recorded_bytes c.in_ok-reply.field-0) k) (sym c.notify.ensures) c.in_ok-reply.ensures.ok;
  edited = option_map message_bytes c.in_ok-reply-2.reply;
  edits = c.in_ok-reply-2.ensures;
  sent_is = c.by_fault.ensures;
  new_is = c.append_log.ensures.kept ∙ ap (λ t. record (keeping c.notify.new.self) { faults = t }) c.count.ensures;
}
