use Rattle.std.proofs.Common.{◌≡◌, ◌∙◌, ◌∷◌, List, [], sym, subst}
use Rattle.dns_server.specs.Zones.{AreServable}
use Rattle.dns_zone.specs.Rows.{ZoneContent}
use Rattle.dns_durable.specs.Draft.{AreSettledFor, is_settled}
use Rattle.dns_durable.specs.declared.incoming.Arrived.{Arrived}
use Rattle.dns_durable.proofs.BatchLaws.{only_one}
use Rattle.dns_durable.proofs.DraftBatchLaws.{ready_behind}
use Rattle.dns_durable.proofs.draft.settling.settle_updates.Goals as goal

pub returns-in_default-settle_all : goal.returns-in_default-settle_all
returns-in_default-settle_all c = λ base.
    let zone = c.zone-item.result in
    let are : c.args.server.now ≡ c.zone-item.result ∷ [] =
    sym c.zones.ensures.zones ∙ only_one c.zones.result.now c.zone-item.result c.in-len1.len_at_least c.in-len1.len_below c.zone-item.is in
    let served : AreServable (c.zone-item.result ∷ []) = subst (λ (z : List ZoneContent). AreServable z) are c.zones.ensures.servable in
    ready_behind base c.zone-item.result c.args.server.now c.args.batch.now.admitted.items c.args.progress.now c.in-Writing.draft c.settle_all.new.self c.in-Writing.is are served.0
    c.in_default-settle_all.ensures.goes_on
    (subst (λ (l : List Arrived). AreSettledFor (is_settled c.settle_all.new.self) c.zone-item.result.rows l) c.as_slice.ensures.value c.in_default-settle_all.ensures.settled)
