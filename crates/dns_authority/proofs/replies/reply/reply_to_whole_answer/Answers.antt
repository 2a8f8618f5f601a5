use Rattle.std.proofs.Common.{◌∙◌}
use Rattle.dns_messages.specs.Emit.{lent}
use Rattle.dns_authority.proofs.SendingLaws.{truncated_for}
use Rattle.dns_authority.proofs.replies.reply.reply_to_whole_answer.Goals as goal

pub returns-in-Some : goal.returns-in-Some
returns-in-Some c =
    truncated_for c.args.limit c.args.request.now c.args.authority.now.zones.now c.args.answer (lent c.as_ref.result) c.in-Some.bytes.items
    (c.as_ref.ensures.value ∙ c.edns_of_reply-edns.ensures) (rw c.in-Some.is at c.in_ok-bytes.ensures)
