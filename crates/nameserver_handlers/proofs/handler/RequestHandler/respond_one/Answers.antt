use Rattle.std.proofs.Common.{[], ◌∷◌, ap, arith, inr, refl}
use Rattle.dns_sockets.specs.Handler.{request_content}
use Rattle.nameserver_handlers.specs.Handling.{keeping}
use Rattle.nameserver_handlers.proofs.HandlingLaws.{left_one, no_reply, one_served, replies_length}
use Rattle.nameserver_handlers.proofs.handler.RequestHandler.respond_one.Goals as goal

pub returns-in_err-responded : goal.returns-in_err-responded
returns-in_err-responded g c =
    left_one g.S.Storage.performs (keeping c.args.self.now) (request_content c.args.request.now ∷ []) (c.args.terms.now ∷ []) _
    c.from_residual.result c.from_residual.ensures.0
    (record { left = inr (_, c.respond_all.result, (((refl, refl), (refl, refl)), c.respond_all.ensures.performs)); settings_kept = refl; faults_kept = refl })

pub unreachable-requires : goal.unreachable-requires
unreachable-requires g c =
    no_reply c.in_ok-responded.responded.replies.items (omega (arith, c.in-None.ensures.cases.0, c.in_ok-responded.responded.replies.ok))
    (replies_length _ _ c.in_ok-responded.responded _ _ _ _ _ c.in_ok-responded.ensures.performs.holds)

pub returns : goal.returns
returns g c =
    one_served g.S.Storage.performs (keeping c.args.self.now) (keeping c.record.new.self) c.respond_all.new.self.journal.storage c.respond_all.new.self.journal.position c.respond_all.new.self.server (request_content c.args.request.now) c.args.terms.now _ c.in_ok-responded.responded ((refl, refl), (refl, refl))
    c.in_ok-responded.ensures.performs refl c.pop.new.self.items c.in-Some.reply _ c.in-Some.ensures.items c.record.ensures.bytes c.in_ok-responded.ensures.changes c.record.ensures.recorded c.record.ensures.former
    (ap (λ server. server.journal.storage) c.record.ensures.server) (ap (λ server. server.journal.position) c.record.ensures.server) (ap (λ server. server.server) c.record.ensures.server)
    c.record.ensures.settings c.record.ensures.faults
