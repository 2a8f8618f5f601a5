use Rattle.std.proofs.Common.{◌∙◌, ap, sym}
use Rattle.dns_zone.specs.internal.Store.{is_empty_set}
use Rattle.dns_zone.proofs.StoreLaws.{removed_one, kept_one, false_true}
use Rattle.dns_zone.proofs.sets.ZoneSets.release_one.Goals as goal
use Rattle.dns_zone.proofs.sets.ZoneSets.release_one.Goals.{in-Some, in-None}

pub returns-then-is_released : goal.returns-then-is_released
returns-then-is_released c =
    elim c.match-get.branch [
      | in-Some w ↦ removed_one c.args.set.now c.args.self.now c.remove.new.self w.in-Some.present.now w.in-Some.ensures (sym w.is_empty-is_released.ensures ∙ sym w.is_released-is ∙ c.if-is_released.true) c.remove.ensures.others
      | in-None w ↦ absurd (false_true (sym w.is_released-is ∙ c.if-is_released.true))
    ]

pub returns-else-is_released : goal.returns-else-is_released
returns-else-is_released c =
    elim c.match-get.branch [
      | in-Some w ↦ kept_one c.args.set.now c.args.self.now (ap is_empty_set (sym w.in-Some.ensures) ∙ sym w.is_empty-is_released.ensures ∙ sym w.is_released-is ∙ c.if-is_released.false)
      | in-None w ↦ kept_one c.args.set.now c.args.self.now (ap is_empty_set (sym w.in-None.ensures))
    ]
