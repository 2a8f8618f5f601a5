use Rattle.std.proofs.Common.{◌≡◌, ◌∙◌, ap, map, refl, sym, List}
use Rattle.std.specs.Borrow.{Bor}
use Rattle.dns_data.specs.declared.rdata.RData.{RData}
use Rattle.dns_records.specs.Record.{Record}
use Rattle.dns_updates.specs.Keys.{owner_code, type_code}
use Rattle.dns_updates.specs.Records.{same_data_set}
use Rattle.dns_updates.specs.internal.Required.{lent, record_place, set_place}
use Rattle.dns_updates.proofs.RequiredLaws.{compared_for, left_after, met_for}
use Rattle.dns_updates.proofs.code.required_groups.has_required.Goals as goal

pub returns-in_default-clause-left : goal.returns-in_default-clause-left
returns-in_default-clause-left g c = λ ps left e.
    let own : set_place c.args.prerequisite.now.name.labels c.record_type-record_type.result ≡ record_place c.args.prerequisite.now =
    λ i. (owner_code c.args.prerequisite.now.name.labels, type_code (c.record_type-record_type.ensures i)) in
    left_after (g.Z.ZoneRows.rows c.args.zone.now) ps c.args.groups.now c.take.new.self c.args.prerequisite.now _ own c.take.ensures.others
    (λ r same any. compared_for (g.Z.ZoneRows.rows c.args.zone.now) ps c.args.groups.now c.args.prerequisite.now r _ own same c.in_default.ensures.value left any) left

pub returns-clause-met : goal.returns-clause-met
returns-clause-met g c = λ ps left any.
    let own : set_place c.args.prerequisite.now.name.labels c.record_type-record_type.result ≡ record_place c.args.prerequisite.now =
    λ i. (owner_code c.args.prerequisite.now.name.labels, type_code (c.record_type-record_type.ensures i)) in
    met_for (g.Z.ZoneRows.rows c.args.zone.now) ps c.args.groups.now c.args.prerequisite.now c.args.prerequisite.now _ c.record_type-record_type.result (lent c.in-Some.required.items) c.records-records.result.now c.in_ok-met.met
    own refl c.in-Some.ensures.value
    (c.in_ok-met.ensures ∙ ap (λ (ds : List (Bor RData)). same_data_set (lent ds) (map (λ (q : Record). q.rdata) c.records-records.result.now)) c.as_slice.ensures.value)
    c.records-records.ensures c.record_type-record_type.ensures left any

pub returns-clause-left : goal.returns-clause-left
returns-clause-left g c = λ ps left e.
    let own : set_place c.args.prerequisite.now.name.labels c.record_type-record_type.result ≡ record_place c.args.prerequisite.now =
    λ i. (owner_code c.args.prerequisite.now.name.labels, type_code (c.record_type-record_type.ensures i)) in
    left_after (g.Z.ZoneRows.rows c.args.zone.now) ps c.args.groups.now c.take.new.self c.args.prerequisite.now _ own c.take.ensures.others
    (λ r same any.
    sym (met_for (g.Z.ZoneRows.rows c.args.zone.now) ps c.args.groups.now c.args.prerequisite.now r _ c.record_type-record_type.result (lent c.in-Some.required.items) c.records-records.result.now c.in_ok-met.met
    own same c.in-Some.ensures.value
    (c.in_ok-met.ensures ∙ ap (λ (ds : List (Bor RData)). same_data_set (lent ds) (map (λ (q : Record). q.rdata) c.records-records.result.now)) c.as_slice.ensures.value)
    c.records-records.ensures c.record_type-record_type.ensures left any) ∙ e)
    left
