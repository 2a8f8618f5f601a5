use Rattle.std.proofs.Common.{◌≡◌, ◌<◌, ◌∙◌, sym, ap, subst, List, [], ◌∷◌, ◌++◌, None, Some, arith, rules}
use Rattle.std.proofs.lemmas.Result.{on_ok_weaker}
use Rattle.dns_wire.proofs.StoredLaws.{on_err}
use Rattle.dns_wire.specs.codes.RecordType.{type_number}
use Rattle.dns_data.specs.rdata.{data_type}
use Rattle.dns_records.specs.Record.{Record}
use Rattle.dns_records.specs.RecordSet.{RecordSetValue}
use Rattle.dns_zone_file.specs.RecordSets.{is_set_for, inserted_in, records_count, HaveNamedTypes}
use Rattle.dns_zone_file.specs.internal.SetIndex.{place_of}
use Rattle.dns_zone_file.proofs.PlaceLaws.{within}
use Rattle.dns_zone_file.proofs.SetIndexLaws.{only_place, no_place}
use Rattle.dns_zone_file.proofs.RecordSetsLaws.{IsPlace, place_found, owner_is, type_is, inserted_at, indexed_at, unchanged_at, inserted_new, named_after, count_at, count_new}
use Rattle.dns_zone_file.proofs.record_sets.RecordSets.insert.Goals as goal

pub index_mut-requires : goal.index_mut-requires
index_mut-requires c =
    let at : place_of c.self.inside.index c.args.resource_record.name (type_number (data_type c.args.resource_record.rdata)) ≡ Some c.in-Some.place = search rules in
    let only = only_place c.self.inside.index c.self.inside.sets.items c.args.resource_record.name (type_number (data_type c.args.resource_record.rdata)) c.in-Some.place c.self.invariant.1 at in
    omega (arith, within (is_set_for c.args.resource_record) c.self.inside.sets.items c.in-Some.place only.passes)

pub insert-requires-clause-owner : goal.insert-requires-clause-owner
insert-requires-clause-owner c =
    let p : IsPlace c.self.inside.sets.items c.args.resource_record c.in-Some.place c.index_mut.result.now = place_found c.self.inside.index c.self.inside.sets.items c.args.resource_record c.in-Some.place c.index_mut.result.now c.self.invariant.1 (search rules) c.index_mut.ensures.value in
    owner_is p

pub insert-requires-clause-of_type : goal.insert-requires-clause-of_type
insert-requires-clause-of_type c =
    let p : IsPlace c.self.inside.sets.items c.args.resource_record c.in-Some.place c.index_mut.result.now = place_found c.self.inside.index c.self.inside.sets.items c.args.resource_record c.in-Some.place c.index_mut.result.now c.self.invariant.1 (search rules) c.index_mut.ensures.value in
    type_is p c.self.invariant.0 c.requires

pub returns-in_err-insert-in-Some-clause-err : goal.returns-in_err-insert-in-Some-clause-err
returns-in_err-insert-in-Some-clause-err c =
    let p : IsPlace c.self.inside.sets.items c.args.resource_record c.in-Some.place c.index_mut.result.now = place_found c.self.inside.index c.self.inside.sets.items c.args.resource_record c.in-Some.place c.index_mut.result.now c.self.invariant.1 (search rules) c.index_mut.ensures.value in
    on_err c.from_residual.result (unchanged_at c.insert.new.self p c.in_err-insert-in-Some.ensures.err ∙ c.self.view_is)

pub invariant_of-self-in-Some : goal.invariant_of-self-in-Some
invariant_of-self-in-Some c =
    let p : IsPlace c.self.inside.sets.items c.args.resource_record c.in-Some.place c.index_mut.result.now = place_found c.self.inside.index c.self.inside.sets.items c.args.resource_record c.in-Some.place c.index_mut.result.now c.self.invariant.1 (search rules) c.index_mut.ensures.value in (
      subst HaveNamedTypes (sym (inserted_at c.insert.new.self p c.in_ok-insert-in-Some.ensures.ok)) (named_after c.self.inside.sets.items c.args.resource_record c.self.invariant.0 c.requires),
      indexed_at c.insert.new.self p c.in_ok-insert-in-Some.ensures.ok c.self.invariant.1,
    )

pub returns-in_ok-insert-in-Some-clause-ok : goal.returns-in_ok-insert-in-Some-clause-ok
returns-in_ok-insert-in-Some-clause-ok c =
    let p : IsPlace c.self.inside.sets.items c.args.resource_record c.in-Some.place c.index_mut.result.now = place_found c.self.inside.index c.self.inside.sets.items c.args.resource_record c.in-Some.place c.index_mut.result.now c.self.invariant.1 (search rules) c.index_mut.ensures.value in
    inserted_at c.insert.new.self p c.in_ok-insert-in-Some.ensures.ok ∙ ap (λ (l : List RecordSetValue). inserted_in l c.args.resource_record) c.self.view_is

pub returns-in_ok-set-in-None-clause-ok : goal.returns-in_ok-set-in-None-clause-ok
returns-in_ok-set-in-None-clause-ok c =
    let at : place_of c.self.inside.index c.args.resource_record.name (type_number (data_type c.args.resource_record.rdata)) ≡ None = search rules in
    let new = inserted_new c.self.inside.sets.items c.args.resource_record (no_place c.self.inside.index c.self.inside.sets.items c.args.resource_record.name (type_number (data_type c.args.resource_record.rdata)) c.self.invariant.1 at) in
    let whole : c.push_set.new.sets.items ≡ c.self.inside.sets.items ++ c.in_ok-set-in-None.set ∷ [] → c.push_set.new.sets.items ≡ inserted_in c.args.self.now c.args.resource_record = λ pushed.
    pushed
    ∙ ap (λ (s : RecordSetValue). c.self.inside.sets.items ++ s ∷ []) c.in_ok-set-in-None.ensures
    ∙ new
    ∙ ap (λ (l : List RecordSetValue). inserted_in l c.args.resource_record) c.self.view_is in
    on_ok_weaker c.push_set.result whole c.push_set.ensures.ok

-- the number of records grows, of the sets as contracts see them
grown : (inside now : List RecordSetValue) (r : Record) → inside ≡ now → records_count inside < records_count (inserted_in inside r) → records_count now < records_count (inserted_in now r)
grown inside now r same less = subst (λ (l : List RecordSetValue). records_count l < records_count (inserted_in l r)) same less

pub returns-in_err-insert-in-Some-clause-grows : goal.returns-in_err-insert-in-Some-clause-grows
returns-in_err-insert-in-Some-clause-grows c =
    let p : IsPlace c.self.inside.sets.items c.args.resource_record c.in-Some.place c.index_mut.result.now = place_found c.self.inside.index c.self.inside.sets.items c.args.resource_record c.in-Some.place c.index_mut.result.now c.self.invariant.1 (search rules) c.index_mut.ensures.value in
    on_err c.from_residual.result (grown c.self.inside.sets.items c.args.self.now c.args.resource_record c.self.view_is (count_at p c.in_err-insert-in-Some.ensures.grows))

pub returns-in_err-set-in-None-clause-grows : goal.returns-in_err-set-in-None-clause-grows
returns-in_err-set-in-None-clause-grows c =
    let at : place_of c.self.inside.index c.args.resource_record.name (type_number (data_type c.args.resource_record.rdata)) ≡ None = search rules in
    let none = no_place c.self.inside.index c.self.inside.sets.items c.args.resource_record.name (type_number (data_type c.args.resource_record.rdata)) c.self.invariant.1 at in
    on_err c.from_residual-in_err-set-in-None.result (grown c.self.inside.sets.items c.args.self.now c.args.resource_record c.self.view_is (count_new c.self.inside.sets.items c.args.resource_record none))

pub returns-in_ok-set-in-None-clause-grows : goal.returns-in_ok-set-in-None-clause-grows
returns-in_ok-set-in-None-clause-grows c =
    let at : place_of c.self.inside.index c.args.resource_record.name (type_number (data_type c.args.resource_record.rdata)) ≡ None = search rules in
    let none = no_place c.self.inside.index c.self.inside.sets.items c.args.resource_record.name (type_number (data_type c.args.resource_record.rdata)) c.self.invariant.1 at in
    on_err c.push_set.result (grown c.self.inside.sets.items c.args.self.now c.args.resource_record c.self.view_is (count_new c.self.inside.sets.items c.args.resource_record none))
