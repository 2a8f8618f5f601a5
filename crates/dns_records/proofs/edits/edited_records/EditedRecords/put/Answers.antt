use Rattle.std.proofs.Common.{◌≡◌, ◌++◌, ◌∷◌, [], List, ap, arith, length, length-append, refl, subst, sym, None, Some, ◌∙◌}
use Rattle.dns_records.specs.Record.{Record}
use Rattle.dns_records.specs.RecordSet.{put, record_data}
use Rattle.dns_records.specs.edits.Places.{IsIndexOf, records_in}
use Rattle.dns_records.proofs.EntryLaws.{refilled}
use Rattle.dns_records.proofs.PlaceLaws.{Places, count_filled, count_push, count_within, put_none, put_some, set_length, spot, there}
use Rattle.dns_records.proofs.edits.edited_records.EditedRecords.put.Goals as goal

pub invariant_of-self-in-Some : goal.invariant_of-self-in-Some
invariant_of-self-in-Some c =
    let places : Places = c.self.inside.places.items in
    let x : Record = c.args.resource_record in
    let at : spot places x.rdata ≡ Some c.in-Some.place = sym (ap (λ (ps : Places). spot ps x.rdata) c.as_slice-2.ensures.value) ∙ sym c.in-Some.ensures in
    record {
      counted = omega (arith, c.self.invariant.counted, count_filled places x.rdata x c.in-Some.place at, ap (λ (ps : Places). length (records_in ps)) c.fill_place.ensures);
      empty = c.self.invariant.empty;
      fits = omega (arith, c.self.invariant.fits, ap length c.fill_place.ensures, set_length places c.in-Some.place (Some x));
      indexed = subst (IsIndexOf c.count_edit.new.self) (sym c.fill_place.ensures)
          (refilled c.count_edit.new.self places c.in-Some.place x (there places x.rdata c.in-Some.place at) (subst (IsIndexOf c.count_edit.new.self) c.as_slice.ensures.value c.count_edit.ensures));
    }

pub overflow_add-self : goal.overflow_add-self
overflow_add-self c = omega (arith, c.self.invariant.counted, count_within c.self.inside.places.items, c.in_ok-reserve-in-None.ensures.ok, c.reserve.ensures.items, c.reserve.new.self.small)

pub invariant_of-self-in-None : goal.invariant_of-self-in-None
invariant_of-self-in-None c =
    let places : Places = c.self.inside.places.items in
    let x : Record = c.args.resource_record in
    let new : c.push_reserved.new.self.items ≡ places ++ Some x ∷ [] = c.push_reserved.ensures.items ∙ ap (λ (ps : Places). ps ++ Some x ∷ []) c.reserve.ensures.items in
    record {
      counted = omega (arith, c.self.invariant.counted, count_push places x, ap (λ (ps : Places). length (records_in ps)) new);
      empty = c.reserve-in-None.ensures.items ∙ c.self.invariant.empty;
      fits = omega (arith, c.in_ok-reserve-in-None-2.ensures.ok, ap length c.push_reserved.ensures.items, length-append c.reserve.new.self.items (Some x ∷ []), c.len.ensures);
      indexed = subst (IsIndexOf c.push.new.self) (ap (λ (ps : Places). ps ++ Some x ∷ []) c.as_slice-in-None.ensures.value ∙ sym c.push_reserved.ensures.items) (c.in_ok-push-in-None.ensures.ok x refl);
    }

pub returns-in-Some : goal.returns-in-Some
returns-in-Some c =
    let places : Places = c.self.inside.places.items in
    let x : Record = c.args.resource_record in
    let at : spot places x.rdata ≡ Some c.in-Some.place = sym (ap (λ (ps : Places). spot ps x.rdata) c.as_slice-2.ensures.value) ∙ sym c.in-Some.ensures in
    ap records_in c.fill_place.ensures
    ∙ put_some places x c.in-Some.place at
    ∙ ap (λ (rs : List Record). put record_data rs x) c.self.view_is

pub returns-in_ok-push-in-None : goal.returns-in_ok-push-in-None
returns-in_ok-push-in-None c =
    let places : Places = c.self.inside.places.items in
    let x : Record = c.args.resource_record in
    let at : spot places x.rdata ≡ None = sym (ap (λ (ps : Places). spot ps x.rdata) c.as_slice-2.ensures.value) ∙ sym c.position.ensures ∙ c.in-None.is in
    ap records_in (c.push_reserved.ensures.items ∙ ap (λ (ps : Places). ps ++ Some x ∷ []) c.reserve.ensures.items)
    ∙ put_none places x at
    ∙ ap (λ (rs : List Record). put record_data rs x) c.self.view_is
