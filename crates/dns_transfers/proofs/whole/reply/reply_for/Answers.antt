use Rattle.std.proofs.Common.{◌∙◌, ap, sym}
use Rattle.std.specs.Prelude.{option_copied}
use Rattle.dns_transfers.specs.whole.Request.{refusal}
use Rattle.dns_transfers.proofs.RequestLaws.{by_refusal, some_copied}
use Rattle.dns_transfers.proofs.whole.reply.reply_for.Goals as goal

pub returns-in-Some : goal.returns-in-Some
returns-in-Some c =
    by_refusal c.args.request.now c.args.transport c.args.is_permitted (option_copied c.args.zone) c.in-Some.code c.refused.result
    (sym c.in-Some.is ∙ c.refusal.ensures.value ∙ ap (refusal c.args.transport c.args.is_permitted) (c.is_some.ensures ∙ some_copied c.args.zone))
    c.refused.ensures
