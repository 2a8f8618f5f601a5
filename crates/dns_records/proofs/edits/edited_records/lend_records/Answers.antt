use Rattle.std.proofs.Common.{◌≡◌, ◌∙◌, ◌++◌, [], ◌∷◌, List, map, refl, sym, ap, arith}
use Rattle.std.proofs.lemmas.List.{map-append}
use Rattle.std.specs.Borrow.{Bor}
use Rattle.dns_records.specs.Record.{Record}
use Rattle.dns_records.proofs.PlaceLaws.{more_so_far, none_yet, same_so_far}
use Rattle.dns_records.proofs.edits.edited_records.lend_records.Goals as goal
use Rattle.dns_records.proofs.edits.edited_records.lend_records.Goals.{in-Some+in_ok-push, in_default}

pub loop-place-init : goal.loop-place-init
loop-place-init c = ap (map (λ (r : Bor Record). r.now)) c.new-lent.ensures.items ∙ sym none_yet

pushed : (old new : List (Bor Record)) (x : Bor Record) (records : List Record) (r : Record) → new ≡ old ++ x ∷ [] → x.now ≡ r
    → map (λ (b : Bor Record). b.now) old ≡ records → map (λ (b : Bor Record). b.now) new ≡ records ++ r ∷ []
pushed old new x records r e same so_far =
    ap (map (λ (b : Bor Record). b.now)) e ∙ map-append (λ (b : Bor Record). b.now) old (x ∷ []) ∙ (λ i. so_far i ++ same i ∷ [])

pub loop-place-preserved : goal.loop-place-preserved
loop-place-preserved c = elim c.match-place.branch [
  | in-Some+in_ok-push w ↦
      ap (λ v. map (λ (r : Bor Record). r.now) v.items) w.lent-is
      ∙ pushed c.loop-place.lent.items w.push.new.self.items _ _ w.in-Some.present w.in_ok-push.ensures.items refl c.loop-place.invariant
      ∙ sym (more_so_far c.args.places.now c.loop-place.place-index c.place-item.result w.in-Some.present (omega arith) c.place-item.is w.in-Some.is)
  | in_default w ↦
      ap (λ v. map (λ (r : Bor Record). r.now) v.items) w.lent-is
      ∙ c.loop-place.invariant
      ∙ sym (same_so_far c.args.places.now c.loop-place.place-index c.place-item.result (omega arith) c.place-item.is w.in_default.is)
]
