use Rattle.std.proofs.Common.{◌≡◌, ◌<◌, ◌+◌, ◌++◌, ◌∷◌, [], ℕ, List, take, get_or, ap, arith, length, length-append, sym, Some, ◌∙◌}
use Rattle.std.proofs.lemmas.List.{take_more}
use Rattle.dns_records.specs.Record.{Record}
use Rattle.dns_records.specs.edits.Places.{records_in}
use Rattle.dns_records.proofs.PlaceLaws.{none_yet, records_push}
use Rattle.dns_records.proofs.edits.edited_records.copy_records.Goals as goal

pub loop-present-init : goal.loop-present-init
loop-present-init c = (ap records_in c.new-places.ensures.items ∙ none_yet, ap length c.new-places.ensures.items)

pub loop-present-preserved : goal.loop-present-preserved
loop-present-preserved c = (
  ap records_in c.in_ok-push.ensures.items
      ∙ records_push c.loop-present.places.items c.in_ok-clone.field-0
      ∙ ap (λ (rs : List Record). rs ++ c.in_ok-clone.field-0 ∷ []) c.loop-present.invariant.0
      ∙ more c.loop-present.present-index c.args.records.now c.present-item.result c.in_ok-clone.field-0 (omega arith) c.present-item.is c.in_ok-clone.ensures.ok,
  ap length c.in_ok-push.ensures.items ∙ omega (arith, length-append c.loop-present.places.items (Some c.in_ok-clone.field-0 ∷ []), c.loop-present.invariant.1),
)
  where
    more : (i : ℕ) (rs : List Record) (x y : Record) → i < length rs → x ≡ get_or rs i x → y ≡ x → take i rs ++ y ∷ [] ≡ take (i + 1) rs
    more i rs x y less is same = ap (λ z. take i rs ++ z ∷ []) (same ∙ is) ∙ sym (take_more rs i x less)
