use Rattle.std.proofs.Common.{◌≡◌, ◌++◌, take, string_bytes}
use Rattle.std.specs.Prelude.{flat_map}
use Rattle.zone_check.specs.findings.Shown.{shown_char}
use Rattle.zone_check.proofs.findings.shown.push_characters.Given as goal

-- the characters so far are shown
abbrev pub invariant-loop-c : goal.invariant-loop-c
invariant-loop-c l =
    string_bytes l.report ≡ string_bytes l.initial.report ++ flat_map (shown_char l.format) (take l.c-index l.characters)
