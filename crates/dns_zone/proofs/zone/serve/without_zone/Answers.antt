use Rattle.std.proofs.Common.{◌≡◌, ◌≤◌, ◌∙◌, sym, subst}
use Rattle.dns_messages.specs.declared.message.Message.{Message}
use Rattle.dns_messages.specs.Cut.{front_reach}
use Rattle.dns_zone.specs.Request.{reply_without_zone}
use Rattle.dns_zone.specs.Serving.{borrowed_reply}
use Rattle.dns_zone.proofs.RequestLaws.{is_without}
use Rattle.dns_zone.proofs.zone.serve.without_zone.Goals as goal
use Rattle.dns_zone.proofs.zone.serve.without_zone.Goals.{After-new}

reply_is : (c : After-new) → ◌≡◌ {A = Message} (borrowed_reply c.new.result) (reply_without_zone c.args.request.now c.args.code)
reply_is c = c.new.ensures ∙ is_without c.args.request.now c.args.code c.repeated_queries.result.now c.bare.result c.repeated_queries.ensures.value c.bare.ensures

pub returns-clause-reply : goal.returns-clause-reply
returns-clause-reply c = reply_is c

pub returns-clause-short : goal.returns-clause-short
returns-clause-short c =
    subst (λ (x : Message). front_reach x ≤ 512) (sym (reply_is c)) (c.repeated_queries.ensures.front c.args.code)
