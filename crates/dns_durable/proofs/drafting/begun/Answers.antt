use Rattle.std.proofs.Common.{◌≡◌, ◌∙◌, ◌∷◌, [], sym}
use Rattle.dns_durable.proofs.BatchLaws.{only_one}
use Rattle.dns_durable.proofs.DraftBatchLaws.{begun_behind}
use Rattle.dns_durable.proofs.drafting.begun.Goals as goal

pub returns-in-Ok-clause-begun : goal.returns-in-Ok-clause-begun
returns-in-Ok-clause-begun c =
    let are : c.args.server.now ≡ c.zone-item.result ∷ [] =
    sym c.zones.ensures.zones ∙ only_one c.zones.result.now c.zone-item.result c.in-len1.len_at_least c.in-len1.len_below c.zone-item.is in
    (c.zone-item.result, (are, begun_behind c.zone-item.result c.args.server.now c.in-Ok.draft are c.in-Ok.ensures.begun c.in-Ok.ensures.carried))

pub returns-in-Err-clause-begun : goal.returns-in-Err-clause-begun
returns-in-Err-clause-begun c =
    (c.zone-item.result, (sym c.zones.ensures.zones ∙ only_one c.zones.result.now c.zone-item.result c.in-len1.len_at_least c.in-len1.len_below c.zone-item.is, tt))
