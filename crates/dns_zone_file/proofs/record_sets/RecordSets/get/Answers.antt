use Rattle.std.proofs.Common.{◌≡◌, ◌∙◌, ap, List, slice_get, None, Some, rules}
use Rattle.dns_wire.specs.codes.RecordType.{type_number}
use Rattle.dns_records.specs.RecordSet.{RecordSetValue}
use Rattle.dns_zone_file.specs.RecordSets.{set_of}
use Rattle.dns_zone_file.specs.internal.SetIndex.{place_of}
use Rattle.dns_zone_file.proofs.SetIndexLaws.{only_place, no_place}
use Rattle.dns_zone_file.proofs.RecordSetsLaws.{found_set, no_set, lent_at}
use Rattle.dns_zone_file.proofs.record_sets.RecordSets.get.Goals as goal

pub returns-in-Some : goal.returns-in-Some
returns-in-Some c =
    let at : place_of c.self.inside.index c.args.owner.now (type_number c.args.record_type) ≡ Some c.in-Some.place = search rules in
    lent_at c.deref.result.now c.in-Some.place c.get-in-Some.result c.get-in-Some.ensures.lookup.0 c.get-in-Some.ensures.lookup.1
    ∙ ap (λ (l : List RecordSetValue). slice_get l c.in-Some.place) c.deref.ensures.value
    ∙ found_set c.self.inside.sets.items c.args.owner.now c.args.record_type c.in-Some.place (only_place c.self.inside.index c.self.inside.sets.items c.args.owner.now (type_number c.args.record_type) c.in-Some.place c.self.invariant.1 at)
    ∙ ap (λ (l : List RecordSetValue). set_of l c.args.owner.now c.args.record_type) c.self.view_is

pub returns-in-None : goal.returns-in-None
returns-in-None c =
    let at : place_of c.self.inside.index c.args.owner.now (type_number c.args.record_type) ≡ None = search rules in
    no_set c.self.inside.sets.items c.args.owner.now c.args.record_type (no_place c.self.inside.index c.self.inside.sets.items c.args.owner.now (type_number c.args.record_type) c.self.invariant.1 at)
    ∙ ap (λ (l : List RecordSetValue). set_of l c.args.owner.now c.args.record_type) c.self.view_is
