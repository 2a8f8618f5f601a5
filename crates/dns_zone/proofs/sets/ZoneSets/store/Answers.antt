use Rattle.std.proofs.Common.{◌∙◌, List, ap, sym}
use Rattle.dns_updates.specs.declared.changes.changed_set.ChangedSet.{ChangedSet}
use Rattle.dns_zone.specs.Sets.{set_at}
use Rattle.dns_zone.specs.internal.Store.{changed_keys, released_at}
use Rattle.dns_zone.proofs.StoreLaws.{none_released}
use Rattle.dns_zone.proofs.sets.ZoneSets.store.Goals as goal

pub returns-clause-err : goal.returns-clause-err
returns-clause-err c = λ k.
    c.release-in-Err.ensures k
    ∙ ap (λ (cs : List ChangedSet). released_at (changed_keys cs) k (set_at c.reserve.new.self k)) (c.as_slice-in-Err.ensures.value ∙ sym c.as_slice.ensures.value)
    ∙ c.in-Err.ensures.released k ∙ none_released c.args.self.now (changed_keys c.as_slice.result.now) k c.requires
