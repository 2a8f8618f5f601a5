use Rattle.std.proofs.Common.{◌≡◌, ℕ, List, ◌++◌, drop}
use Rattle.std.specs.Fmt.{HasWritten, IsPlainFormatter}
use Rattle.dns_zone.specs.Printed.{owner_lines}
use Rattle.dns_zone.proofs.zone.display.write_records.Given as goal

-- the records that are left complete the text
abbrev pub invariant-loop-present : goal.invariant-loop-present
invariant-loop-present g l = IsPlainFormatter l.initial.f
    → (done : List ℕ) × HasWritten g.W.Write.write_str_gives l.initial.f done l.f × (done ++ owner_lines l.owner (drop l.present-index l.records) ≡ owner_lines l.owner l.records)
