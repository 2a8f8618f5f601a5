use Rattle.std.proofs.Common.{rules, ◌≡◌, ◌∙◌, ◌==◌, ap, length, [], true, false, slice_index_or, Vec, Global}
use Rattle.lookup_cli.specs.Arguments.{IsItemFor, is_input}
use Rattle.lookup_cli.proofs.ArgumentsLaws.{items_more, items_same}
use Rattle.lookup_cli.specs.declared.answers.item.Item.{Item}
use Rattle.lookup_cli.proofs.arguments.items_of.Goals as goal
use Rattle.lookup_cli.proofs.arguments.items_of.Goals.{then-not-is_input+in_ok-item_of+in_ok-push, else-not-is_input}

pub loop-text-preserved : goal.loop-text-preserved
loop-text-preserved c = elim c.if-not-is_input.branch [
  | then-not-is_input+in_ok-item_of+in_ok-push w ↦
      let other : is_input (slice_index_or c.args.texts.now c.loop-text.text-index (record { ref_ptr = (0, 0); now = [] })).now ≡ false = search rules in
      items_more (IsItemFor c.args.question c.args.reverse (length c.args.texts.now == 1)) c.args.texts.now c.loop-text.items.items c.if-not-is_input.items.items
      c.loop-text.text-index (record { ref_ptr = (0, 0); now = [] }) w.in_ok-item_of.field-0 c.loop-text-test.true other c.loop-text.invariant w.in_ok-item_of.ensures.item
      (ap (λ (v : Vec Item Global). v.items) w.items-is ∙ w.in_ok-push.ensures.items)
  | else-not-is_input w ↦
      let is : is_input (slice_index_or c.args.texts.now c.loop-text.text-index (record { ref_ptr = (0, 0); now = [] })).now ≡ true = search rules in
      items_same (IsItemFor c.args.question c.args.reverse (length c.args.texts.now == 1)) c.args.texts.now c.loop-text.items.items c.if-not-is_input.items.items
      c.loop-text.text-index (record { ref_ptr = (0, 0); now = [] }) c.loop-text-test.true is c.loop-text.invariant (ap (λ (v : Vec Item Global). v.items) w.items-is)
]
