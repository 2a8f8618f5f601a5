use Rattle.std.proofs.Common.{◌∙◌, List, ap}
use Rattle.std.specs.List.{list_any}
use Rattle.dns_names.specs.Compare.{at_or_below}
use Rattle.dns_records.specs.RecordSet.{RecordSetValue}
use Rattle.dns_zone.proofs.SetLaws.{below_some, below_none}
use Rattle.dns_zone.proofs.sets.ZoneSets.has_set_below.Goals as goal

pub returns-in-Some : goal.returns-in-Some
returns-in-Some c =
    below_some c.args.name.now.labels c.first_key-start.result c.self.inside.map.entries c.range.result c.next.new.self (c.in-Some.next.now, c.in-Some.field-0-1.now) c.starts_with.result
    c.as_slice.result.now c.as_slice-in-Some.result.now c.self.invariant c.range.ensures.ordered c.first_key-start.ensures.owner c.first_key-start.ensures.of_type
    (c.range.ensures.between tt) c.in-Some.ensures.steps c.starts_with.ensures.value c.as_slice.ensures c.as_slice-in-Some.ensures
    ∙ ap (λ (sets : List RecordSetValue). list_any (λ (s : RecordSetValue). at_or_below c.args.name.now.labels s.name.labels) sets) c.self.view_is

pub returns-in-None : goal.returns-in-None
returns-in-None c =
    below_none c.args.name.now.labels c.first_key-start.result c.self.inside.map.entries c.range.result c.self.invariant c.range.ensures.ordered
    c.first_key-start.ensures.owner c.first_key-start.ensures.of_type (c.range.ensures.between tt) c.in-None.ensures.steps.0
    ∙ ap (λ (sets : List RecordSetValue). list_any (λ (s : RecordSetValue). at_or_below c.args.name.now.labels s.name.labels) sets) c.self.view_is
