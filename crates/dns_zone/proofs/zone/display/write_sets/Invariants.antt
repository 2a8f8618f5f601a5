use Rattle.std.proofs.Common.{◌≡◌, ℕ, List, ◌++◌, flat_map, length}
use Rattle.std.specs.Fmt.{HasWritten, IsPlainFormatter}
use Rattle.dns_zone.specs.Printed.{set_lines}
use Rattle.dns_zone.proofs.zone.display.write_sets.Given as goal

-- the sets that are left complete the text
abbrev pub invariant-loop-set : goal.invariant-loop-set
invariant-loop-set g l = IsPlainFormatter l.initial.f
    → (done : List ℕ) × HasWritten g.W.Write.write_str_gives l.initial.f done l.f × (done ++ flat_map set_lines l.sets ≡ flat_map set_lines l.initial.sets)

abbrev pub decreases-loop-set : goal.decreases-loop-set
decreases-loop-set g l = length l.sets
