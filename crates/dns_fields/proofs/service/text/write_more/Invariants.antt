use Rattle.std.proofs.Common.{◌≡◌, ℕ, List, ◌-◌, ◌++◌}
use Rattle.std.specs.Fmt.{HasWritten, IsPlainFormatter}
use Rattle.dns_fields.specs.service.Text.{word_text, more_groups}
use Rattle.dns_fields.proofs.service.text.write_more.Given as goal

-- the groups that are left complete the address
abbrev pub invariant-loop : goal.invariant-loop
invariant-loop g l = IsPlainFormatter l.initial.f → (done : List ℕ) × HasWritten g.W.Write.write_str_gives l.initial.f done l.f
    × (done ++ word_text (more_groups (7 - l.counter) l.left) ≡ word_text (more_groups 7 l.bytes))
