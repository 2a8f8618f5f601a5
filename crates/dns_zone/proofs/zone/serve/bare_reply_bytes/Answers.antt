use Rattle.std.proofs.Common.{sym, subst}
use Rattle.dns_messages.specs.Sound.{IsSound}
use Rattle.dns_zone.specs.Request.{reply_without_zone}
use Rattle.dns_zone.specs.Serving.{borrowed_reply}
use Rattle.dns_zone.proofs.RequestLaws.{encoded, without_sound}
use Rattle.dns_zone.proofs.zone.serve.bare_reply_bytes.Goals as goal

pub returns-in-Ok : goal.returns-in-Ok
returns-in-Ok c = λ sound.
    encoded c.args.transport c.args.request.now (borrowed_reply c.without_zone-reply.result) (reply_without_zone c.args.request.now c.args.code) c.reply_limit.result c.in-Ok.out.items
    c.without_zone-reply.ensures.reply c.reply_limit.ensures.value
    (subst IsSound (sym c.without_zone-reply.ensures.reply) (without_sound c.args.request.now c.args.code c.requires.fits c.requires.named sound))
    c.in-Ok.ensures.encodes
