use Rattle.std.proofs.Common.{◌≡◌, ap, arith, length, subst, sym, None, Some, ◌∙◌, slice_get}
use Rattle.std.specs.Prelude.{slice_set}
use Rattle.dns_records.specs.edits.Places.{IsIndexOf, is_place_of, records_in}
use Rattle.dns_records.proofs.PlaceLaws.{Places, count_emptied, emptied, missing, others, set_length, spot}
use Rattle.dns_records.proofs.edits.edited_records.EditedRecords.remove.Goals as goal

pub overflow_sub-self : goal.overflow_sub-self
overflow_sub-self c =
    let at : spot c.self.inside.places.items c.args.rdata.now ≡ Some c.in-Some.place = sym (ap (λ (places : Places). spot places c.args.rdata.now) c.as_slice-2.ensures.value) ∙ sym c.in-Some.ensures.place in
    omega (arith, c.self.invariant.counted, count_emptied c.self.inside.places.items c.args.rdata.now c.in-Some.place at)

pub invariant_of-self-in-Some : goal.invariant_of-self-in-Some
invariant_of-self-in-Some c =
    let at : spot c.self.inside.places.items c.args.rdata.now ≡ Some c.in-Some.place = sym (ap (λ (places : Places). spot places c.args.rdata.now) c.as_slice-2.ensures.value) ∙ sym c.in-Some.ensures.place in
    record {
      counted = omega (arith, c.self.invariant.counted, count_emptied c.self.inside.places.items c.args.rdata.now c.in-Some.place at, ap (λ (places : Places). length (records_in places)) c.empty_place.ensures);
      empty = c.self.invariant.empty;
      fits = omega (arith, c.self.invariant.fits, ap length c.empty_place.ensures, set_length c.self.inside.places.items c.in-Some.place None);
      indexed = subst (IsIndexOf c.remove.new.self) (ap (λ (places : Places). slice_set places c.in-Some.place None) c.as_slice-2.ensures.value ∙ sym c.empty_place.ensures) c.in-Some.ensures.some;
    }

pub returns-in-Some : goal.returns-in-Some
returns-in-Some c =
    let at : spot c.self.inside.places.items c.args.rdata.now ≡ Some c.in-Some.place = sym (ap (λ (places : Places). spot places c.args.rdata.now) c.as_slice-2.ensures.value) ∙ sym c.in-Some.ensures.place in
    ap records_in c.empty_place.ensures
    ∙ emptied c.self.inside.places.items c.args.rdata.now c.in-Some.place at
    (λ j h. c.in-Some.ensures.only j (ap (λ (places : Places). is_place_of (slice_get places j) c.args.rdata.now) c.as_slice-2.ensures.value ∙ h))
    ∙ ap (others c.args.rdata.now) c.self.view_is

pub returns-in_default : goal.returns-in_default
returns-in_default c =
    missing c.self.inside.places.items c.args.rdata.now
    (sym (ap (λ (places : Places). spot places c.args.rdata.now) c.as_slice-2.ensures.value) ∙ sym c.remove.ensures.place ∙ c.in_default.is)
    ∙ ap (others c.args.rdata.now) c.self.view_is
