use Rattle.dns_authority.proofs.RepliesFrontLaws.{within}
use Rattle.dns_authority.proofs.replies.reply.bytes_with.Goals as goal

pub send-requires : goal.send-requires
send-requires c = within _ c.args.limit c.reply_of.ensures.front c.requires
