use Rattle.std.proofs.Common.{◌≡◌, ℕ, List, ◌++◌, drop}
use Rattle.std.specs.Fmt.{HasWritten, IsPlainFormatter}
use Rattle.dns_messages.specs.Printed.{question_lines}
use Rattle.dns_messages.proofs.message.display.write_question_lines.Given as goal

-- the entries that are left complete the text
abbrev pub invariant-loop-query : goal.invariant-loop-query
invariant-loop-query g l = IsPlainFormatter l.initial.f
    → (done : List ℕ) × HasWritten g.W.Write.write_str_gives l.initial.f done l.f × (done ++ question_lines (drop l.query-index l.queries) ≡ question_lines l.queries)
