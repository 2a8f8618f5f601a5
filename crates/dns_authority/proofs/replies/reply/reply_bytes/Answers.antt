use Rattle.std.proofs.Common.{◌<◌, subst}
use Rattle.dns_messages.specs.Encoding.{Encodes}
use Rattle.dns_authority.specs.declared.answer.AuthorityAnswer.{AuthorityAnswer}
use Rattle.dns_authority.specs.Additional.{with_additionals}
use Rattle.dns_authority.specs.replies.Reply.{reply_with}
use Rattle.dns_authority.specs.replies.Sending.{sent}
use Rattle.dns_authority.specs.replies.TooMany.{record_count, too_many_records}
use Rattle.dns_authority.proofs.TooManyLaws.{all_records, few_records, if_ok, sent_without}
use Rattle.dns_authority.proofs.replies.reply.reply_bytes.Goals as goal

pub returns-in-Some : goal.returns-in-Some
returns-in-Some c = λ whole is.
    let long = rw c.in-Some.is at c.in_ok-bytes.ensures in
    sent_without c.args.limit c.args.request.now c.args.authority.now.zones.now c.args.answer whole c.in-Some.bytes.items is long.0 long.1

pub returns : goal.returns
returns c =
    let few : record_count c.args.answer < too_many_records c.args.limit =
    few_records c.args.limit c.args.request.now c.args.answer c.in_default.not-Some (λ out. out.items) c.in_ok-bytes.ensures in
    if_ok c.reply_to_whole_answer.result _ _ c.reply_to_whole_answer.ensures
    (λ out encodes whole is. subst (λ (a : AuthorityAnswer). Encodes c.args.limit (sent c.args.limit (reply_with c.args.request.now (with_additionals c.args.authority.now.zones.now a))) out.items)
    (all_records (too_many_records c.args.limit) c.args.answer whole is few) encodes)
