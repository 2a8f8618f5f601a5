use Rattle.std.proofs.Common.{◌∙◌, List, ap}
use Rattle.std.specs.Map.{values_of}
use Rattle.dns_records.specs.RecordSet.{RecordSetValue}
use Rattle.dns_zone.specs.Sets.{sets_after}
use Rattle.dns_zone.proofs.SetLaws.{Entries, after_start}
use Rattle.dns_zone.proofs.sets.ZoneSets.after.Goals as goal

pub returns : goal.returns
returns c =
    ap (λ (es : Entries). values_of es) (c.range.ensures.between tt)
    ∙ after_start c.args.key.now c.self.inside.map.entries c.self.invariant
    ∙ ap (sets_after c.args.key.now) c.self.view_is
