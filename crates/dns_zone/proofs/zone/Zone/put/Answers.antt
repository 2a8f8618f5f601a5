use Rattle.std.proofs.Common.{◌≡◌, ◌∙◌, true, [], ◌∷◌, cond, ap, sym, subst}
use Rattle.std.specs.Ordering.{eq_by_cmp}
use Rattle.dns_wire.proofs.StoredLaws.{on_err}
use Rattle.dns_records.specs.Rows.{type_of_record}
use Rattle.dns_updates.specs.Change.{is_put, update_change}
use Rattle.dns_updates.specs.Code.{update_code}
use Rattle.dns_updates.specs.Records.{has_set}
use Rattle.dns_zone.specs.Rows.{ZoneContent, IsZone, key, key_cmp, rows_of_sets}
use Rattle.dns_zone.specs.Sets.{set_at, with_put}
use Rattle.dns_zone.proofs.AppliedLaws.{IsApplied, applied, unchanged}
use Rattle.dns_zone.proofs.KeptLaws.{AreKept}
use Rattle.dns_updates.proofs.PutLaws.{puts}
use Rattle.dns_zone.proofs.SingleLaws.{single_change, single_set, single_steps, some_set}
use Rattle.dns_zone.proofs.zone.Zone.put.Goals as goal
use Rattle.dns_zone.proofs.zone.Zone.put.Goals.{In_ok-put_record, In_err-put_record}

kept : (c : In_err-put_record) → AreKept c.self.inside.origin c.self.inside.sets c.put_record.new.self
kept c = unchanged c.self.inside.origin c.self.inside.sets c.put_record.new.self c.self.invariant.1 c.self.invariant.2 c.in_err-put_record.ensures.ordered c.in_err-put_record.ensures.err

done : (c : In_ok-put_record) → IsApplied c.self.inside.origin c.self.inside.sets c.put_record.new.self c.args.update.now
done c =
    let r = c.args.addition.now in
    let rows = rows_of_sets c.self.inside.sets in
    let single = c.requires.single in
    let present : has_set rows r.name (type_of_record r) ≡ true = ap (λ (z : ZoneContent). has_set z.rows r.name (type_of_record r)) c.self.view_is ∙ single.present in
    let is : is_put rows r.dns_class r ≡ true = ap (λ (z : ZoneContent). is_put z.rows r.dns_class r) c.self.view_is ∙ single.is_put in
    applied c.self.inside.origin c.self.inside.sets c.put_record.new.self c.self.invariant.1 c.self.invariant.2 c.in_ok-put_record.ensures.ordered
    (single_set c.self.inside.sets r ∷ []) c.args.update.now c.type_number_round_trips.ensures
    (subst IsZone (sym c.self.view_is) c.well_formed-2.ensures) c.requires.sound (ap (λ (z : ZoneContent). update_code z.origin z.rows c.args.update.now) c.self.view_is ∙ c.requires.accepted)
    (single_change c.self.inside.origin c.self.inside.sets c.args.update.now r single.only (puts c.self.inside.origin rows r.dns_class r is))
    (single_steps c.self.inside.sets c.put_record.new.self r (some_set c.self.inside.sets (key r.name.labels (type_of_record r)) present)
    (λ k. c.in_ok-put_record.ensures.ok k
    ∙ (λ i. cond (eq_by_cmp key_cmp k (key r.name.labels (c.record_type.ensures i))) (with_put (c.in_ok-resource_record.ensures.ok i) (set_at c.self.inside.sets k)) (set_at c.self.inside.sets k))))

pub invariant_of-self : goal.invariant_of-self
invariant_of-self c =
    let at = goal.at.invariant_of-self c in
    let k = kept at.In_err-put_record in
    (c.self.invariant.0, k.sound, k.zone_sets)

pub returns-in_err-put_record-clause-err : goal.returns-in_err-put_record-clause-err
returns-in_err-put_record-clause-err c =
    let k = kept (goal.at.returns-in_err-put_record-clause-err c).In_err-put_record in
    on_err c.from_residual-in_err-put_record.result ((λ i. record { origin = c.self.inside.origin; rows = k.rows i }) ∙ c.self.view_is)

pub returns-in_err-put_record-clause-well_formed : goal.returns-in_err-put_record-clause-well_formed
returns-in_err-put_record-clause-well_formed c =
    let k = kept (goal.at.returns-in_err-put_record-clause-well_formed c).In_err-put_record in
    let same : ◌≡◌ {A = ZoneContent} (record { origin = c.self.inside.origin; rows = rows_of_sets c.put_record.new.self }) c.args.self.now =
    (λ i. record { origin = c.self.inside.origin; rows = k.rows i }) ∙ c.self.view_is in
    subst IsZone (sym same) c.well_formed-2.ensures

pub invariant_of-self-2 : goal.invariant_of-self-2
invariant_of-self-2 c =
    let a = done (goal.at.invariant_of-self-2 c).In_ok-put_record in
    (c.self.invariant.0, a.whole.sound, a.whole.zone_sets)

pub returns-clause-ok : goal.returns-clause-ok
returns-clause-ok c =
    let a = done (goal.at.returns-clause-ok c).In_ok-put_record in
    a.zone_is ∙ ap (λ (z : ZoneContent). record z { rows = update_change z.origin z.rows c.args.update.now }) c.self.view_is

pub returns-clause-well_formed : goal.returns-clause-well_formed
returns-clause-well_formed c = (done (goal.at.returns-clause-well_formed c).In_ok-put_record).well
