use Rattle.std.proofs.Common.{◌∙◌, sym, rules}
use Rattle.std.proofs.Output.{has_written_append, has_written_of_eq}
use Rattle.dns_zone.proofs.LineLaws.{first_and_more}
use Rattle.dns_zone.proofs.zone.display.ZoneLinesDisplay.fmt.Goals as goal

pub returns-clause-writes : goal.returns-clause-writes
returns-clause-writes g c = λ plain ok.
    let first = c.in_ok-write_records.ensures plain (search rules) in
    let more = c.write_sets.ensures first.plain ok in
    has_written_of_eq _ _ _ _ _
    (first_and_more c.args.self.now.origin.now c.args.self.now.sets.now c.next.new.self c.in-Some.start.now c.as_slice.result.now c.as_slice.ensures (sym c.iter-sets.ensures ∙ c.in-Some.ensures.steps))
    (has_written_append _ _ _ _ _ _ first more)
