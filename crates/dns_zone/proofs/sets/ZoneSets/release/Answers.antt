use Rattle.dns_zone.specs.Sets.{set_at}
use Rattle.dns_zone.proofs.StoreLaws.{release_step}
use Rattle.dns_zone.proofs.sets.ZoneSets.release.Goals as goal

pub loop-set-preserved : goal.loop-set-preserved
loop-set-preserved c = λ k.
    release_step c.args.changed.now c.loop-set.set-index c.set-item.result k c.loop-set-test.true c.set-item.is (set_at c.loop-set.self k) _ _ (c.release_one.ensures k) (c.loop-set.invariant k)
