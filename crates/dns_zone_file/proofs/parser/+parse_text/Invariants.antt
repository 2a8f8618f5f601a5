use Rattle.std.proofs.Common.{◌-◌, length}
use Rattle.dns_zone_file.specs.Parsing.{max_includes, start_in}
use Rattle.dns_zone_file.specs.internal.Parsing.{includes_view}
use Rattle.dns_zone_file.proofs.StepLaws.{Continues}
use Rattle.dns_zone_file.proofs.parser.+parse_text.Given as goal

abbrev pub decreases-parse_text : goal.decreases-parse_text
decreases-parse_text l = max_includes - l.depth

-- the rest of the text completes the whole
abbrev pub invariant-entries : goal.invariant-entries
invariant-entries l = Continues (includes_view l.includes) l.depth l.fn.context (start_in l.fn.context.types l.text) l.context l.lexer

abbrev pub decreases-entries : goal.decreases-entries
decreases-entries l = length l.lexer.text
