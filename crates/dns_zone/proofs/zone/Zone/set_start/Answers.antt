use Rattle.std.proofs.Common.{◌≡◌, ◌==◌, ◌∙◌, ℕ, arith, false, length, vec_len, ap, sym, subst}
use Rattle.dns_zone.specs.Rows.{ZoneContent, IsZone, rows_of}
use Rattle.dns_zone.specs.internal.Rise.{zone_with_start}
use Rattle.dns_zone.proofs.StartLaws.{started, IsStarted}
use Rattle.dns_zone.proofs.zone.Zone.set_start.Goals as goal
use Rattle.dns_zone.proofs.zone.Zone.set_start.Goals.{After-set_records}

replaced : (c : After-set_records) → IsStarted c.self.inside.origin c.self.inside.sets c.set_records.new.self c.args.start.items
replaced c =
    let len : vec_len c.args.start ≡ length c.args.start.items = omega arith in
    let filled : (length c.args.start.items == 0) ≡ false = ap (λ (n : ℕ). n == 0) (sym len) ∙ sym c.is_empty.ensures ∙ c.if-not-is_empty.true in
    started c.self.inside.origin c.self.inside.sets c.set_records.new.self c.args.start.items c.self.invariant.1 c.self.invariant.2 c.set_records.ensures.ordered
    (subst IsZone (sym c.self.view_is) c.well_formed-2.ensures)
    (subst (λ (z : ZoneContent). IsZone (zone_with_start z (rows_of c.args.start.items))) (sym c.self.view_is) c.requires) filled c.set_records.ensures.sets

pub invariant_of-self : goal.invariant_of-self
invariant_of-self c =
    let a = replaced (goal.at.invariant_of-self c).After-set_records in
    (c.self.invariant.0, a.whole.sound, a.whole.zone_sets)

pub returns-then-not-is_empty-clause-zone : goal.returns-then-not-is_empty-clause-zone
returns-then-not-is_empty-clause-zone c =
    (replaced (goal.at.returns-then-not-is_empty-clause-zone c).After-set_records).zone_is
    ∙ ap (λ (z : ZoneContent). zone_with_start z (rows_of c.args.start.items)) c.self.view_is

pub returns-then-not-is_empty-clause-well_formed : goal.returns-then-not-is_empty-clause-well_formed
returns-then-not-is_empty-clause-well_formed c =
    let zone_is =
    (replaced (goal.at.returns-then-not-is_empty-clause-well_formed c).After-set_records).zone_is
    ∙ ap (λ (z : ZoneContent). zone_with_start z (rows_of c.args.start.items)) c.self.view_is in
    subst IsZone (sym zone_is) c.requires
