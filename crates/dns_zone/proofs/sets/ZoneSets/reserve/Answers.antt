use Rattle.std.proofs.Common.{◌∙◌, ap}
use Rattle.dns_zone.specs.Sets.{set_at}
use Rattle.dns_zone.specs.internal.Store.{changed_keys, released_at}
use Rattle.dns_zone.specs.declared.sets.ZoneSets.{ZoneSets}
use Rattle.dns_zone.proofs.StoreLaws.{reserve_step, release_reserved, full_turn, empty_turn}
use Rattle.dns_zone.proofs.sets.ZoneSets.reserve.Goals as goal
use Rattle.dns_zone.proofs.sets.ZoneSets.reserve.Goals.{then-not-is_empty+in_ok-reserve_one, else-not-is_empty}

pub loop-set-preserved : goal.loop-set-preserved
loop-set-preserved c =
    elim c.if-not-is_empty.branch [
      | then-not-is_empty+in_ok-reserve_one w ↦ (
        λ k. reserve_step c.args.changed.now c.loop-set.set-index c.set-item.result k c.loop-set-test.true c.set-item.is (set_at c.loop-set.self k) _ _
            (full_turn c.set-item.result k c.is_empty.result (set_at c.loop-set.self k) _ c.is_empty.ensures w.if-not-is_empty.true (ap (λ (sets : ZoneSets). set_at sets k) w.self-is ∙ w.in_ok-reserve_one.ensures.ok k))
            (c.loop-set.invariant.0 k),
        λ k. ap (released_at (changed_keys c.args.changed.now) k) (ap (λ (sets : ZoneSets). set_at sets k) w.self-is ∙ w.in_ok-reserve_one.ensures.ok k)
            ∙ release_reserved c.args.changed.now c.loop-set.set-index c.set-item.result k (set_at c.loop-set.self k) c.loop-set-test.true c.set-item.is
            ∙ c.loop-set.invariant.1 k,
      )
      | else-not-is_empty w ↦ (
        λ k. reserve_step c.args.changed.now c.loop-set.set-index c.set-item.result k c.loop-set-test.true c.set-item.is (set_at c.loop-set.self k) _ _
            (empty_turn c.set-item.result k c.is_empty.result (set_at c.loop-set.self k) _ c.is_empty.ensures w.if-not-is_empty.false (ap (λ (sets : ZoneSets). set_at sets k) w.self-is))
            (c.loop-set.invariant.0 k),
        λ k. ap (released_at (changed_keys c.args.changed.now) k) (ap (λ (sets : ZoneSets). set_at sets k) w.self-is) ∙ c.loop-set.invariant.1 k,
      )
    ]
