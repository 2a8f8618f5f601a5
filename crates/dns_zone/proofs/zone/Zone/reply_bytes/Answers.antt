use Rattle.dns_zone.specs.Serving.{borrowed_reply}
use Rattle.dns_zone.proofs.ServingLaws.{replied}
use Rattle.dns_zone.proofs.zone.Zone.reply_bytes.Goals as goal

pub returns-in-Ok : goal.returns-in-Ok
returns-in-Ok c = record {
  encodes = λ sound.
      replied c.args.self.now c.args.transport c.args.request.now (borrowed_reply c.reply_to-reply.result) c.reply_limit.result c.in-Ok.out.items
      c.reply_to-reply.ensures.reply c.reply_limit.ensures.value (c.reply_to-reply.ensures.sound sound) c.in-Ok.ensures.encodes;
}
