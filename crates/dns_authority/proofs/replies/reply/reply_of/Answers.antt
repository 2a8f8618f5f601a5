use Rattle.dns_authority.proofs.RepliesFrontLaws.{front_fits}
use Rattle.dns_authority.proofs.replies.reply.reply_of.Goals as goal

pub returns-clause-front : goal.returns-clause-front
returns-clause-front c = front_fits c.repeated_queries.result.now c.repeated_queries.ensures.few c.repeated_queries.ensures.short
