use Rattle.std.proofs.Common.{List, ap, inr, map, refl, subst, sym}
use Rattle.dns_durable.specs.Changes.{AreChanges, reply_change}
use Rattle.dns_durable.specs.declared.incoming.Incoming.{Incoming}
use Rattle.dns_sockets.specs.Handler.{request_content}
use Rattle.dns_zone.specs.Rows.{ZoneContent}
use Rattle.nameserver_handlers.specs.Handling.{AreIncoming, keeping}
use Rattle.nameserver_handlers.proofs.HandlingLaws.{responded_error, responded_moved, responded_recorded}
use Rattle.nameserver_handlers.proofs.handler.RequestHandler.respond.Goals as goal

pub returns-in_err-responded : goal.returns-in_err-responded
returns-in_err-responded g c =
    let rs = map request_content c.args.requests.now in
    responded_error g.S.Storage.performs (keeping c.args.self.now) rs c.args.terms.now _ c.from_residual-in_err-responded.result c.from_residual-in_err-responded.ensures.0 (record {
      left = inr (
        c.as_slice.result.now,
        c.respond_all.result,
        (subst (λ (incoming : List Incoming). AreIncoming rs c.args.terms.now incoming) (sym c.as_slice.ensures.value) c.in_ok-incoming.ensures, c.respond_all.ensures.performs),
      );
      settings_kept = refl;
      faults_kept = refl;
    })

pub returns : goal.returns
returns g c =
    let rs = map request_content c.args.requests.now in
    let done = c.respond_all.new.self in
    responded_recorded g.S.Storage.performs (keeping c.args.self.now) rs c.args.terms.now (keeping c.record_all.new.self) c.record_all.result c.in_ok-responded.responded c.as_slice.result.now
    c.record_all.ensures.bytes c.record_all.ensures.former
    (subst (λ (zones : List ZoneContent). AreChanges c.args.self.now.server.server (map reply_change c.in_ok-responded.responded.replies.items) zones) (sym (ap (λ server. server.server) c.record_all.ensures.server)) c.in_ok-responded.ensures.changes)
    c.record_all.ensures.recorded
    (subst (λ (incoming : List Incoming). AreIncoming rs c.args.terms.now incoming) (sym c.as_slice.ensures.value) c.in_ok-incoming.ensures)
    (responded_moved g.S.Storage.performs _ _ c.args.self.now.server c.in_ok-responded.responded done c.record_all.new.self.server c.record_all.ensures.server c.in_ok-responded.ensures.performs)
    c.record_all.ensures.settings c.record_all.ensures.faults
