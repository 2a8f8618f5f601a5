use Rattle.std.proofs.Common.{◌≡◌, ◌==◌, ◌∙◌, ap, not, List, length, slice_get, None, Some, refl, arith, rules}
use Rattle.std.proofs.lemmas.Option.{slice_get_read}
use Rattle.dns_wire.specs.codes.DNSClass.{class_number}
use Rattle.dns_wire.specs.codes.RecordType.{type_number}
use Rattle.dns_wire.specs.declared.codes.dns_class.DNSClass.{DNSClass}
use Rattle.dns_data.specs.rdata.{data_type}
use Rattle.dns_records.specs.RecordSet.{RecordSetValue}
use Rattle.dns_zone_file.specs.RecordSets.{is_set_for, has_other_class}
use Rattle.dns_zone_file.specs.internal.SetIndex.{place_of}
use Rattle.dns_zone_file.proofs.PlaceLaws.{within}
use Rattle.dns_zone_file.proofs.SetIndexLaws.{only_place, no_place}
use Rattle.dns_zone_file.proofs.RecordSetsLaws.{class_found, no_class}
use Rattle.dns_zone_file.proofs.record_sets.RecordSets.has_other_class.Goals as goal

pub index-requires : goal.index-requires
index-requires c =
    let at : place_of c.self.inside.index c.args.resource_record.now.name (type_number (data_type c.args.resource_record.now.rdata)) ≡ Some c.in-Some.place = search rules in
    let only = only_place c.self.inside.index c.self.inside.sets.items c.args.resource_record.now.name (type_number (data_type c.args.resource_record.now.rdata)) c.in-Some.place c.self.invariant.1 at in
    omega (arith, within (is_set_for c.args.resource_record.now) c.self.inside.sets.items c.in-Some.place only.passes)

pub returns-in-Some : goal.returns-in-Some
returns-in-Some c =
    let at : place_of c.self.inside.index c.args.resource_record.now.name (type_number (data_type c.args.resource_record.now.rdata)) ≡ Some c.in-Some.place = search rules in
    let only = only_place c.self.inside.index c.self.inside.sets.items c.args.resource_record.now.name (type_number (data_type c.args.resource_record.now.rdata)) c.in-Some.place c.self.invariant.1 at in
    let there : slice_get c.self.inside.sets.items c.in-Some.place ≡ Some c.index.result.now = slice_get_read c.self.inside.sets.items (length c.self.inside.sets.items) c.in-Some.place c.index.result.now refl (within (is_set_for c.args.resource_record.now) c.self.inside.sets.items c.in-Some.place only.passes) c.index.ensures in
    c.ne.ensures
    ∙ ap (λ (d : DNSClass). not (class_number d == class_number c.args.resource_record.now.dns_class)) c.dns_class.ensures
    ∙ class_found c.self.inside.sets.items c.args.resource_record.now c.in-Some.place c.index.result.now only there
    ∙ ap (λ (l : List RecordSetValue). has_other_class l c.args.resource_record.now) c.self.view_is

pub returns-in-None : goal.returns-in-None
returns-in-None c =
    let at : place_of c.self.inside.index c.args.resource_record.now.name (type_number (data_type c.args.resource_record.now.rdata)) ≡ None = search rules in
    no_class c.self.inside.sets.items c.args.resource_record.now (no_place c.self.inside.index c.self.inside.sets.items c.args.resource_record.now.name (type_number (data_type c.args.resource_record.now.rdata)) c.self.invariant.1 at)
    ∙ ap (λ (l : List RecordSetValue). has_other_class l c.args.resource_record.now) c.self.view_is
