use Rattle.std.proofs.Common.{[], ◌∷◌, refl}
use Rattle.dns_sockets.specs.Handler.{request_content}
use Rattle.nameserver_handlers.specs.Handling.{keeping}
use Rattle.nameserver_handlers.proofs.HandlingLaws.{serves_none, serves_one}
use Rattle.nameserver_handlers.proofs.handler.RequestHandler.serve_one.Goals as goal

pub returns-clause-ok : goal.returns-clause-ok
returns-clause-ok g c =
    serves_one g.S.Storage.performs (keeping c.args.self.now) (request_content c.args.request.now ∷ []) (c.args.terms.now ∷ []) (keeping c.respond_one-outcome.new.self) (keeping c.settle.new.self)
    (c.requires, refl) c.respond_one-outcome.result c.is_err.result c.is_err.ensures.value c.settle.ensures c.respond_one-outcome.ensures

pub returns-clause-err : goal.returns-clause-err
returns-clause-err g c =
    serves_none g.S.Storage.performs (keeping c.args.self.now) (request_content c.args.request.now ∷ []) (c.args.terms.now ∷ []) (keeping c.respond_one-outcome.new.self) (keeping c.settle.new.self)
    (c.requires, refl) c.respond_one-outcome.result c.is_err.result c.is_err.ensures.value c.settle.ensures c.respond_one-outcome.ensures
