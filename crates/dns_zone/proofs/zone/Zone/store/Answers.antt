use Rattle.std.proofs.Common.{◌≡◌, ◌∙◌, ap, sym, subst}
use Rattle.dns_wire.proofs.StoredLaws.{on_err}
use Rattle.dns_updates.specs.Change.{update_change}
use Rattle.dns_updates.specs.Changes.{overlay}
use Rattle.dns_updates.specs.Code.{update_code}
use Rattle.dns_zone.specs.Rows.{ZoneContent, IsZone, rows_of_sets}
use Rattle.dns_zone.proofs.AppliedLaws.{IsApplied, applied, unchanged}
use Rattle.dns_zone.proofs.KeptLaws.{AreKept}
use Rattle.dns_zone.proofs.RowLaws.{no_empty_set}
use Rattle.dns_zone.proofs.zone.Zone.store.Goals as goal
use Rattle.dns_zone.proofs.zone.Zone.store.Goals.{In_ok-store, In_err-store}

kept : (c : In_err-store) → AreKept c.self.inside.origin c.self.inside.sets c.store.new.self
kept c = unchanged c.self.inside.origin c.self.inside.sets c.store.new.self c.self.invariant.1 c.self.invariant.2 c.in_err-store.ensures.ordered c.in_err-store.ensures.err

done : (c : In_ok-store) → IsApplied c.self.inside.origin c.self.inside.sets c.store.new.self c.args.update.now
done c =
    applied c.self.inside.origin c.self.inside.sets c.store.new.self c.self.invariant.1 c.self.invariant.2 c.in_ok-store.ensures.ordered
    c.args.changed.items c.args.update.now c.type_number_round_trips.ensures
    (subst IsZone (sym c.self.view_is) c.well_formed-2.ensures) c.requires.sound (ap (λ (z : ZoneContent). update_code z.origin z.rows c.args.update.now) c.self.view_is ∙ c.requires.accepted)
    (subst (λ (z : ZoneContent). overlay z.rows c.args.changed.items ≡ update_change z.origin z.rows c.args.update.now) (sym c.self.view_is) c.requires.changes)
    c.in_ok-store.ensures.ok

pub store-requires : goal.store-requires
store-requires c = no_empty_set c.self.inside.sets c.self.invariant.1

pub invariant_of-self : goal.invariant_of-self
invariant_of-self c =
    let k = kept (goal.at.invariant_of-self c).In_err-store in
    (c.self.invariant.0, k.sound, k.zone_sets)

pub returns-in_err-store-clause-err : goal.returns-in_err-store-clause-err
returns-in_err-store-clause-err c =
    let k = kept (goal.at.returns-in_err-store-clause-err c).In_err-store in
    on_err c.from_residual.result ((λ i. record { origin = c.self.inside.origin; rows = k.rows i }) ∙ c.self.view_is)

pub returns-in_err-store-clause-well_formed : goal.returns-in_err-store-clause-well_formed
returns-in_err-store-clause-well_formed c =
    let k = kept (goal.at.returns-in_err-store-clause-well_formed c).In_err-store in
    let same : ◌≡◌ {A = ZoneContent} (record { origin = c.self.inside.origin; rows = rows_of_sets c.store.new.self }) c.args.self.now =
    (λ i. record { origin = c.self.inside.origin; rows = k.rows i }) ∙ c.self.view_is in
    subst IsZone (sym same) c.well_formed-2.ensures

pub invariant_of-self-2 : goal.invariant_of-self-2
invariant_of-self-2 c =
    let a = done (goal.at.invariant_of-self-2 c).In_ok-store in
    (c.self.invariant.0, a.whole.sound, a.whole.zone_sets)

pub returns-clause-ok : goal.returns-clause-ok
returns-clause-ok c =
    let a = done (goal.at.returns-clause-ok c).In_ok-store in
    a.zone_is ∙ ap (λ (z : ZoneContent). record z { rows = update_change z.origin z.rows c.args.update.now }) c.self.view_is

pub returns-clause-well_formed : goal.returns-clause-well_formed
returns-clause-well_formed c = (done (goal.at.returns-clause-well_formed c).In_ok-store).well
