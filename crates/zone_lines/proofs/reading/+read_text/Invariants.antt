use Rattle.std.proofs.Common.{◌≡◌, ◌-◌, length}
use Rattle.dns_zone_file.specs.Parsing.{max_includes, start_in}
use Rattle.dns_zone_file.specs.internal.Parsing.{includes_view}
use Rattle.zone_lines.proofs.ReadingLaws.{Leads, left_at}
use Rattle.zone_lines.proofs.reading.+read_text.Given as goal

abbrev pub decreases-read_text : goal.decreases-read_text
decreases-read_text l = max_includes - l.depth

-- what is found so far and in the rest is found in the whole text
abbrev pub invariant-entries : goal.invariant-entries
invariant-entries l =
    (l.rest.source ≡ l.section.source)
    × Leads (includes_view l.includes) l.depth l.section.source
    (record {
      base = l.section.base;
      text = l.section.text.now;
      closed = l.fn.is_closed;
      context = l.fn.context;
      lexer = start_in l.fn.context.types l.section.text.now;
    })
    l.found.items
    (record { base = l.rest.base; text = l.rest.text.now; closed = l.is_closed; context = l.context; lexer = l.lexer })

abbrev pub decreases-entries : goal.decreases-entries
decreases-entries l = left_at (length l.section.text.now) l.rest.text.now l.lexer
