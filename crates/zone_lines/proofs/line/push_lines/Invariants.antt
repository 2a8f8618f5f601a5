use Rattle.std.proofs.Common.{◌≡◌, ◌++◌, take}
use Rattle.dns_zone_file.specs.internal.Parsing.{includes_view}
use Rattle.zone_lines.specs.Line.{lines_of_all, lines_view}
use Rattle.zone_lines.proofs.line.push_lines.Given as goal

-- the lines of the texts so far
abbrev pub invariant-loop-text : goal.invariant-loop-text
invariant-loop-text l =
    lines_view l.texts.items
    ≡ lines_view l.initial.texts.items ++ lines_of_all (includes_view (take l.text-index l.includes))
