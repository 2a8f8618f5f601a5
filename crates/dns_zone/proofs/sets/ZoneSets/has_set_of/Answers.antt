use Rattle.std.proofs.Common.{◌∙◌, ap, sym}
use Rattle.std.specs.List.{list_any}
use Rattle.std.specs.Map.{values_of}
use Rattle.dns_names.specs.Compare.{same_labels}
use Rattle.dns_records.specs.RecordSet.{RecordSetValue}
use Rattle.dns_zone.proofs.SetLaws.{Entries}
use Rattle.dns_zone.proofs.OwnerLaws.{forward, of_owner, any_of_filter, none_of_filter}
use Rattle.dns_zone.proofs.sets.ZoneSets.has_set_of.Goals as goal

pub range-requires : goal.range-requires
range-requires c =
    forward c.args.owner.now.labels c.first_key-start.result c.end_key-end.result c.first_key-start.ensures.owner c.first_key-start.ensures.of_type c.end_key-end.ensures.owner c.end_key-end.ensures.of_type

pub returns-in-Some : goal.returns-in-Some
returns-in-Some c =
    any_of_filter (λ (s : RecordSetValue). same_labels c.args.owner.now.labels s.name.labels) (values_of c.self.inside.map.entries) c.in-Some.field-0.1.now (values_of c.next.new.self)
    (sym (of_owner c.args.owner.now.labels c.first_key-start.result c.end_key-end.result c.first_key-start.ensures.owner c.first_key-start.ensures.of_type c.end_key-end.ensures.owner c.end_key-end.ensures.of_type c.self.inside.map.entries c.self.invariant)
    ∙ ap (λ (es : Entries). values_of es) (sym (c.range.ensures.between tt) ∙ c.in-Some.ensures.steps))
    ∙ ap (list_any (λ (s : RecordSetValue). same_labels c.args.owner.now.labels s.name.labels)) c.self.view_is

pub returns-in-None : goal.returns-in-None
returns-in-None c =
    none_of_filter (λ (s : RecordSetValue). same_labels c.args.owner.now.labels s.name.labels) (values_of c.self.inside.map.entries)
    (sym (of_owner c.args.owner.now.labels c.first_key-start.result c.end_key-end.result c.first_key-start.ensures.owner c.first_key-start.ensures.of_type c.end_key-end.ensures.owner c.end_key-end.ensures.of_type c.self.inside.map.entries c.self.invariant)
    ∙ ap (λ (es : Entries). values_of es) (sym (c.range.ensures.between tt) ∙ c.in-None.ensures.steps.0))
    ∙ ap (list_any (λ (s : RecordSetValue). same_labels c.args.owner.now.labels s.name.labels)) c.self.view_is
