use Rattle.std.proofs.Common.{arith, subst, sym, ◌∙◌, take, ◌+◌}
use Rattle.dns_records.specs.edits.Places.{HasPlaces}
use Rattle.dns_records.proofs.EntryLaws.{Entries, step_none, step_some}
use Rattle.dns_records.proofs.edits.data_places.enter_all.Goals as goal
use Rattle.dns_records.proofs.edits.data_places.enter_all.Goals.{in-Some+else-contains_key+in_ok-clone+in_ok-insert, in_default}

pub loop-place-preserved : goal.loop-place-preserved
loop-place-preserved c = elim c.match-present.branch [
  | in-Some+else-contains_key+in_ok-clone+in_ok-insert w ↦
      subst (λ (m : Entries). HasPlaces m (take (c.loop-place.place + 1) c.args.places.now)) (sym w.entries-is)
      (step_some c.loop-place.entries w.insert.new.self c.args.places.now c.loop-place.place c.index-places-place.result w.in-Some.present w.in_ok-clone.field-0 (omega arith) c.index-places-place.is w.in-Some.is w.in_ok-clone.ensures.ok
      c.loop-place.invariant (sym w.contains_key.ensures ∙ w.if-contains_key.false) w.in_ok-insert.ensures.updates)
  | in_default w ↦
      subst (λ (m : Entries). HasPlaces m (take (c.loop-place.place + 1) c.args.places.now)) (sym w.entries-is)
      (step_none c.loop-place.entries c.args.places.now c.loop-place.place c.index-places-place.result (omega arith) c.index-places-place.is w.in_default.is c.loop-place.invariant)
]
