use Rattle.std.proofs.Common.{◌≡◌, ℕ, List, ◌++◌, true, length}
use Rattle.std.specs.Fmt.{HasWritten, IsPlainFormatter}
use Rattle.dns_fields.specs.service.Text.{word_text, items_text}
use Rattle.dns_fields.proofs.service.text.write_items.Given as goal

-- the items that are left complete the text
abbrev pub invariant-loop-left : goal.invariant-loop-left
invariant-loop-left g l = IsPlainFormatter l.initial.f → (done : List ℕ) × HasWritten g.W.Write.write_str_gives l.initial.f done l.f
    × (done ++ word_text (items_text l.kind l.is_first 0 l.left) ≡ word_text (items_text l.kind true 0 l.value))

abbrev pub decreases-loop-left : goal.decreases-loop-left
decreases-loop-left g l = length l.left
