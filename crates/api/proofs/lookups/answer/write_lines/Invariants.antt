use Rattle.std.proofs.Common.{◌≡◌, ℕ, List, ◌++◌, drop}
use Rattle.std.specs.Fmt.{HasWritten, IsPlainFormatter}
use Rattle.dns_messages.specs.Printed.{record_lines}
use Rattle.api.proofs.lookups.answer.write_lines.Given as goal

-- the entries that are left complete the text
abbrev pub invariant-loop-line : goal.invariant-loop-line
invariant-loop-line g l = IsPlainFormatter l.initial.f
    → (done : List ℕ) × HasWritten g.W.Write.write_str_gives l.initial.f done l.f × (done ++ record_lines (drop l.line-index l.records) ≡ record_lines l.records)
