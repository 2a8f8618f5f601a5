use Rattle.std.proofs.Common.{◌≡◌, ◌++◌, List, ap, arith, refl, sym, get_or, vec_len, vec_capacity, ◌∙◌, append-nil, Option}
use Rattle.std.proofs.lemmas.List.Edits.{map_over_more}
use Rattle.std.specs.Prelude.{slice_set}
use Rattle.dns_records.specs.Record.{Record}
use Rattle.dns_records.proofs.PlaceLaws.{Places, at_emptied, empty_each, none_moved, none_yet, one_moved}
use Rattle.dns_records.proofs.edits.edited_records.move_records.Goals as goal
use Rattle.dns_records.proofs.edits.edited_records.move_records.Goals.{in-Some, in_default}

pub loop-place-init : goal.loop-place-init
loop-place-init c = (
  sym (ap (λ (rs : List Record). c.args.moved.now.items ++ rs) none_yet ∙ append-nil c.args.moved.now.items),
  omega arith,
  refl,
  refl,
)

pub loop-place-preserved : goal.loop-place-preserved
loop-place-preserved c =
    let places : Places = c.args.places.now in
    let i = c.loop-place.place-index in
    let x : Option Record = c.place-item.result in
    let at : x ≡ get_or places i x = at_emptied places c.loop-place.places i x c.loop-place.invariant.3 c.place-item.is in
    elim c.match-take.branch [
      | in-Some w ↦ (
        ap (λ v. v.items) w.moved-is ∙ one_moved c.args.moved.now.items c.loop-place.moved.items w.push_reserved.new.self.items places i x w.in-Some.present (omega arith) at (c.place-item.is ∙ sym c.take.ensures.value ∙ w.in-Some.is) c.loop-place.invariant.0 w.push_reserved.ensures.items,
        omega (arith, c.loop-place.invariant.1, w.push_reserved.ensures.len, ap vec_len w.moved-is),
        ap vec_capacity w.moved-is ∙ w.push_reserved.ensures.capacity ∙ c.loop-place.invariant.2,
        ap (λ y. slice_set c.loop-place.places i y) c.take.ensures.after ∙ map_over_more empty_each places c.loop-place.places i x (omega arith) c.loop-place.invariant.3 c.place-item.is,
      )
      | in_default w ↦ (
        ap (λ v. v.items) w.moved-is ∙ none_moved c.args.moved.now.items c.loop-place.moved.items places i x (omega arith) at (c.place-item.is ∙ sym c.take.ensures.value ∙ w.in_default.is) c.loop-place.invariant.0,
        omega (arith, c.loop-place.invariant.1, ap vec_len w.moved-is),
        ap vec_capacity w.moved-is ∙ c.loop-place.invariant.2,
        ap (λ y. slice_set c.loop-place.places i y) c.take.ensures.after ∙ map_over_more empty_each places c.loop-place.places i x (omega arith) c.loop-place.invariant.3 c.place-item.is,
      )
    ]
