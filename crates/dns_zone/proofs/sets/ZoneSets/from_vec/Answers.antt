use Rattle.dns_zone.proofs.GatherLaws.{one_gathered}
use Rattle.dns_zone.proofs.sets.ZoneSets.from_vec.Goals as goal

pub loop-set-preserved-in_ok-insert : goal.loop-set-preserved-in_ok-insert
loop-set-preserved-in_ok-insert c = λ k.
    one_gathered c.loop-set.sets.items c.pop.new.self.items c.loop-set.kept c.insert.new.self c.in-Some.set k _ c.in-Some.ensures.items (c.in_ok-insert.ensures.ok k) (c.loop-set.invariant k)

pub loop-set-preserved : goal.loop-set-preserved
loop-set-preserved c = λ k.
    one_gathered c.loop-set.sets.items c.pop.new.self.items c.loop-set.kept c.insert.new.self c.in-Some.set k _ c.in-Some.ensures.items (c.in_ok-insert.ensures.ok k) (c.loop-set.invariant k)
