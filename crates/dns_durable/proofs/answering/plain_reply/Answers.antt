use Rattle.std.proofs.Common.{◌≡◌, false, sym, subst, ◌∙◌, arith}
use Rattle.std.specs.Prelude.{IfOk}
use Rattle.dns_authority.specs.service.Answering.{IsServiceReply}
use Rattle.dns_zone.specs.declared.transport.Transport.{Transport}
use Rattle.dns_durable.specs.Reply.{is_unstored}
use Rattle.dns_durable.proofs.AnsweringLaws.{is_on_disk, makes_none, plain_served}
use Rattle.dns_durable.proofs.answering.plain_reply.Goals.{else-not-is_stored-via-then-not-is_stored+else-is_change, else-not-is_stored-via-else-not-is_stored}
use Rattle.dns_durable.proofs.answering.plain_reply.Goals as goal

pub returns-in-Serve-clause-replied : goal.returns-in-Serve-clause-replied
returns-in-Serve-clause-replied c =
    let un : is_unstored c.args.is_stored c.args.admitted.now ≡ false = elim c.else-not-is_stored.branch [
      | else-not-is_stored-via-then-not-is_stored+else-is_change w ↦ makes_none c.args.is_stored c.args.admitted.now (sym w.is_change.ensures ∙ w.if-is_change.false)
      | else-not-is_stored-via-else-not-is_stored w ↦ is_on_disk c.args.is_stored c.args.admitted.now (grind (arith, w.if-not-is_stored.false))
    ] in
    plain_served c.respond_to.result (λ served. served.reply.items) c.args.answering c.args.is_stored c.in-Serve.updates c.args.server.now c.respond_to.new.server c.args.admitted.now c.in-Serve.is un
    (subst (λ (r : Transport). IfOk c.respond_to.result (λ served. IsServiceReply c.args.answering c.in-Serve.updates c.args.server.now r c.args.admitted.now.message served.reply.items))
    c.transport-transport.ensures c.respond_to.ensures.reply) c.respond_to.ensures.ok
