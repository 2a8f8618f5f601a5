use Rattle.std.proofs.Common.{◌∙◌, List, ap, is_some}
use Rattle.dns_records.specs.Rows.{key}
use Rattle.dns_updates.specs.Changes.{changed_at}
use Rattle.dns_updates.specs.declared.changes.changed_set.ChangedSet.{ChangedSet}
use Rattle.dns_updates.proofs.ChangedLaws.{found_at}
use Rattle.dns_updates.proofs.changes.changed_sets.ChangedSets.contains.Goals as goal

pub returns : goal.returns
returns c =
    c.contains_key.ensures
    ∙ ap is_some (found_at c.self.inside.map.entries c.set_key.result c.args.owner.now.labels c.args.record_type c.self.invariant (λ i. (c.set_key.ensures.owner i, c.set_key.ensures.of_type i))
    ∙ ap (λ (sets : List ChangedSet). changed_at sets (key c.args.owner.now.labels c.args.record_type)) c.self.view_is)
