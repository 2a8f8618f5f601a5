use Rattle.std.proofs.Common.{◌≡◌, ℕ, List, ◌++◌, drop}
use Rattle.std.specs.Fmt.{HasWritten, IsPlainFormatter}
use Rattle.dns_names.specs.Print.{octets_text, label_text}
use Rattle.dns_formats.proofs.print.write_label.Given as goal

-- the octets that are left complete the label
abbrev pub invariant-loop-octet : goal.invariant-loop-octet
invariant-loop-octet g l = IsPlainFormatter l.initial.f → (done : List ℕ) × HasWritten g.W.Write.write_str_gives l.initial.f done l.f
    × (done ++ octets_text l.is_first (drop l.octet-index l.label) ≡ label_text l.label)
