use Rattle.std.proofs.Common.{◌≡◌, List, sym, subst}
use Rattle.std.specs.List.{AllByRecursion}
use Rattle.dns_records.specs.RecordSet.{RecordSetValue}
use Rattle.dns_durable.specs.zone_texts.Stated.{IsStated, IsStatedSet}
use Rattle.dns_durable.proofs.StatedLaws.{stated_zone}
use Rattle.dns_durable.proofs.zone_texts.stated.is_stated.Goals as goal

pub loop-set-init : goal.loop-set-init
loop-set-init c =
    let same : c.into_iter-set-iterator.result ≡ c.sets-set-items.result = c.into_iter-set-iterator.ensures.into_iter_gives in
    subst (λ (sets : List RecordSetValue). AllByRecursion IsStatedSet sets → IsStated c.args.zone.now) (sym same) (stated_zone c.args.zone.now c.sets-set-items.result c.sets-set-items.ensures.rows)
