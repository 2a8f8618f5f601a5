use Rattle.std.proofs.Common.{◌∷◌, ◌∙◌, Bool, List, [], ap, cond, subst, arith, refl}
use Rattle.dns_wire.specs.Encoder.{state_of}
use Rattle.dns_wire.proofs.PieceLaws.{can_roll_back-trans}
use Rattle.dns_wire.proofs.StoredLaws.{on_err}
use Rattle.dns_records.specs.Record.{Record}
use Rattle.dns_messages.specs.Cut.{record_item}
use Rattle.dns_zone.specs.Section.{borrowed_record, remaining_records, section_records}
use Rattle.dns_zone.proofs.SectionLaws.{WritesSection, one_more}
use Rattle.dns_zone.proofs.zone.section.Section.emit_fitting.Goals as goal

pub returns-in_err-emit_if_fits-clause-back : goal.returns-in_err-emit_if_fits-clause-back
returns-in_err-emit_if_fits-clause-back c =
    let u = c.loop-count.invariant.written in
    on_err _ (can_roll_back-trans (state_of c.args.encoder.now) (state_of c.loop-count.encoder) (state_of c.emit_if_fits.new.encoder) u.on u.back c.in_err-emit_if_fits.ensures.back)

pub loop-count-preserved : goal.loop-count-preserved
loop-count-preserved c =
    let old = state_of c.args.encoder.now in
    let w = state_of c.loop-count.encoder in
    let rest = remaining_records c.next.new.self in
    let here = subst (λ (left : List Record). WritesSection old w c.args.self.now left c.loop-count.count) c.in-Some.ensures c.loop-count.invariant.written in
    record {
      written = one_more record_item borrowed_record old w (state_of c.emit_if_fits.new.encoder) (section_records c.args.self.now) rest c.in-Some.row c.loop-count.count here
          (c.in_ok-emit_if_fits.ensures.fits ∙ ap (λ (b : Bool). cond b (c.in-Some.row ∷ []) []) c.if-not-branch.false) (c.in_ok-emit_if_fits.ensures.wrote refl) (c.in_ok-emit_if_fits.ensures.writable refl);
      left = omega (arith, c.loop-count.invariant.left, ap (λ (l : List Record). Rattle.std.proofs.Common.length l) c.in-Some.ensures);
    }
