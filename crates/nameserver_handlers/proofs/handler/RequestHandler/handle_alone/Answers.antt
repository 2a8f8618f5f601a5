use Rattle.std.proofs.Common.{[], ◌∷◌, ◌∙◌, refl, subst}
use Rattle.std.specs.Prelude.{IfOk}
use Rattle.dns_sockets.specs.Handler.{request_content}
use Rattle.nameserver_handlers.specs.Handling.{Keeping, IsDelivered, kept_content, keeping, recorded_bytes}
use Rattle.nameserver_handlers.proofs.HandlingLaws.{together_one}
use Rattle.nameserver_handlers.proofs.handler.RequestHandler.handle_alone.Goals as goal

pub returns-clause-ok : goal.returns-clause-ok
returns-clause-ok g c =
    together_one g.S.Storage.performs (keeping c.args.self.now) (keeping c.serve_one.new.self) (keeping c.logged.new.self) (request_content c.args.request.now) c.logged.result
    (recorded_bytes c.in_ok-recorded.recorded) (c.logged.ensures.kept ∙ c.notify.ensures) (record { terms = c.terms-terms.result ∷ []; are_terms = (c.terms-terms.ensures, refl); served = c.in_ok-recorded.ensures.ok })
    (subst (λ (k : Keeping g.row.S.Denot). IfOk c.logged.result (λ d. IsDelivered (kept_content k) k.settings.transfers k.settings.limit (request_content c.args.request.now) (recorded_bytes c.in_ok-recorded.recorded) d))
    c.notify.ensures c.logged.ensures.delivered)
