use Rattle.std.proofs.Common.{◌≡◌, ℕ, List, ◌++◌, length}
use Rattle.std.specs.Fmt.{HasWritten, IsPlainFormatter}
use Rattle.dns_formats.specs.Print.{labels_at}
use Rattle.dns_formats.proofs.PrintLaws.{each_dotted}
use Rattle.dns_formats.proofs.print.write_labels.Given as goal

-- the labels that are left complete the text
abbrev pub invariant-loop-left : goal.invariant-loop-left
invariant-loop-left g l = IsPlainFormatter l.initial.f → (done : List ℕ) × HasWritten g.W.Write.write_str_gives l.initial.f done l.f
    × (done ++ each_dotted (labels_at 0 l.left) ≡ each_dotted (labels_at 0 l.bytes))

abbrev pub decreases-loop-left : goal.decreases-loop-left
decreases-loop-left g l = length l.left
