use Rattle.std.proofs.Common.{arith, ◌≡◌, refl, ap, ◌∙◌, sym, subst}
use Rattle.dns_messages.specs.declared.response_code.ResponseCode.TheVariants as codes
use Rattle.dns_messages.specs.Message.{truncated}
use Rattle.dns_messages.specs.Sound.{IsSound}
use Rattle.dns_zone.specs.Request.{reply_without_zone}
use Rattle.dns_zone.specs.Serving.{borrowed_reply}
use Rattle.dns_zone.proofs.RequestLaws.{encoded, truncated_sound, with_truncation, without_sound}
use Rattle.dns_zone.proofs.zone.serve.truncated_reply_bytes.Goals as goal

pub returns-in-Ok : goal.returns-in-Ok
returns-in-Ok c = λ sound.
    let is : borrowed_reply c.with_truncation-reply.result ≡ truncated (reply_without_zone c.args.request.now codes.NoError) =
    c.with_truncation-reply.ensures.reply ∙ ap with_truncation c.without_zone.ensures.reply in
    encoded c.args.transport c.args.request.now (borrowed_reply c.with_truncation-reply.result) (truncated (reply_without_zone c.args.request.now codes.NoError)) c.reply_limit.result c.in-Ok.out.items
    is c.reply_limit.ensures.value
    (subst IsSound (sym is) (truncated_sound (reply_without_zone c.args.request.now codes.NoError) (without_sound c.args.request.now codes.NoError (omega arith) refl sound)))
    c.in-Ok.ensures.encodes
