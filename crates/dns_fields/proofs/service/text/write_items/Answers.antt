use Rattle.std.proofs.Common.{List, ℕ, ◌++◌, false, ap, ◌∙◌, rules}
use Rattle.std.proofs.Output.{has_written_append}
use Rattle.dns_fields.specs.service.Text.{word_text, front_item, lead, items_text}
use Rattle.dns_fields.proofs.TextLaws.{items_further}
use Rattle.dns_fields.proofs.service.text.write_items.Goals as goal

pub loop-left-preserved : goal.loop-left-preserved
loop-left-preserved g c = λ plain.
    let so_far = c.loop-left.invariant plain in
    let kind = c.args.kind in
    let left = c.loop-left.left.now in
    let item : List ℕ = lead c.loop-left.is_first ++ word_text (front_item kind left) in (
      so_far.0 ++ item,
      has_written_append _ _ _ _ _ _ so_far.1 (search rules),
      ap (λ (l : List ℕ). (so_far.0 ++ item) ++ word_text (items_text kind false 0 l)) c.skip-left.ensures
          ∙ items_further kind c.loop-left.is_first left so_far.0 _ c.item_len.result (search rules) c.item_len.ensures.value so_far.2,
    )
