use Rattle.std.proofs.Common.{◌≡◌, ◌∙◌, List, None, Option, ap}
use Rattle.dns_messages.specs.declared.message.Message.{Message}
use Rattle.dns_nameserver.specs.Former.{Former, updated}
use Rattle.dns_zone.specs.Rows.{ZoneContent}
use Rattle.dns_nameserver.proofs.FormerLaws.{refused_stay}
use Rattle.dns_nameserver.proofs.former.FormerZones.serve.Goals as goal

pub returns-clause-same : goal.returns-clause-same
returns-clause-same c =
    let f = c.self.inside in
    let zones = ap (λ (m : Option Message). updated f.answering c.respond_to.new.server m) c.in_ok-catch_up.ensures.none
    ∙ c.in_ok-served.ensures.ok ∙ refused_stay c.args.answering c.catch_up.new.server c.args.request.now ∙ c.in_ok-catch_up.ensures.zones in
    ap (λ (z : List ZoneContent). record { answering = f.answering; zones = z; last = f.last }) zones ∙ c.self.view_is
