use Rattle.std.proofs.Common.{◌∙◌, List, ap, map}
use Rattle.std.specs.List.{filter}
use Rattle.std.specs.Map.{values_of}
use Rattle.dns_names.specs.Compare.{same_labels}
use Rattle.dns_records.specs.RecordSet.{RecordSetValue}
use Rattle.dns_zone.proofs.SetLaws.{Entries}
use Rattle.dns_zone.proofs.OwnerLaws.{forward, of_owner, types_listed}
use Rattle.dns_zone.proofs.sets.ZoneSets.types_of.Goals as goal

pub range-sets-requires : goal.range-sets-requires
range-sets-requires c =
    forward c.args.owner.now.labels c.first_key-start.result c.end_key-end.result c.first_key-start.ensures.owner c.first_key-start.ensures.of_type c.end_key-end.ensures.owner c.end_key-end.ensures.of_type

pub returns : goal.returns
returns c =
    types_listed c.loop-set.found.items c.loop-set.sets c.range-sets.result c.in_default.ensures.steps.0 c.loop-set.invariant
    ∙ ap (λ (sets : List RecordSetValue). map (λ (s : RecordSetValue). s.record_type) sets)
    (ap (λ (es : Entries). values_of es) (c.range-sets.ensures.between tt)
    ∙ of_owner c.args.owner.now.labels c.first_key-start.result c.end_key-end.result c.first_key-start.ensures.owner c.first_key-start.ensures.of_type c.end_key-end.ensures.owner c.end_key-end.ensures.of_type c.self.inside.map.entries c.self.invariant
    ∙ ap (filter (λ (s : RecordSetValue). same_labels c.args.owner.now.labels s.name.labels)) c.self.view_is)
