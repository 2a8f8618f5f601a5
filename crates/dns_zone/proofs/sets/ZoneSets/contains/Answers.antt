use Rattle.std.proofs.Common.{◌∙◌, List, ap, is_some}
use Rattle.dns_records.specs.RecordSet.{RecordSetValue}
use Rattle.dns_zone.specs.Rows.{key}
use Rattle.dns_zone.specs.Sets.{set_at}
use Rattle.dns_zone.proofs.SetLaws.{found_at}
use Rattle.dns_zone.proofs.sets.ZoneSets.contains.Goals as goal

pub returns : goal.returns
returns c =
    c.contains_key.ensures
    ∙ ap is_some (found_at c.self.inside.map.entries c.set_key.result c.args.owner.now.labels c.args.record_type c.self.invariant (λ i. (c.set_key.ensures.owner i, c.set_key.ensures.of_type i))
    ∙ ap (λ (sets : List RecordSetValue). set_at sets (key c.args.owner.now.labels c.args.record_type)) c.self.view_is)
