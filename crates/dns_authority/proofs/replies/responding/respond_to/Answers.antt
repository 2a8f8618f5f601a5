use Rattle.std.proofs.Common.{◌≡◌, ◌∙◌, ℕ, ap, subst}
use Rattle.dns_messages.specs.Encoding.{Encodes}
use Rattle.dns_authority.specs.declared.answer.AuthorityAnswer.{AuthorityAnswer}
use Rattle.dns_authority.specs.Front.{first_records}
use Rattle.dns_authority.specs.replies.Reply.{bare_answer_to, reply}
use Rattle.dns_authority.specs.replies.Sending.{sent}
use Rattle.dns_authority.specs.replies.TooMany.{too_many_records}
use Rattle.dns_authority.proofs.TooManyLaws.{if_ok}
use Rattle.dns_authority.proofs.replies.responding.respond_to.Goals as goal

pub returns : goal.returns
returns c =
    let zones = c.args.authority.now.zones.now in
    let whole : AuthorityAnswer = bare_answer_to c.args.authority.now.any zones c.args.request.now in
    let first : c.in_ok-answer.answer ≡ first_records (too_many_records c.reply_limit-limit.result) whole =
    c.in_ok-answer.ensures ∙ ap (λ (n : ℕ). first_records n whole) c.too_many_records.ensures in
    if_ok c.reply_bytes.result _ _ c.reply_bytes.ensures
    (λ out encodes. subst (λ (limit : ℕ). Encodes limit (sent limit (reply c.args.authority.now.any zones c.args.request.now)) out.items) c.reply_limit-limit.ensures.value
    (encodes whole first))
