use Rattle.std.proofs.Common.{◌++◌, rules}
use Rattle.std.proofs.Output.{has_written_append}
use Rattle.dns_zone.specs.Printed.{owner_lines, set_lines}
use Rattle.dns_zone.proofs.LineLaws.{next_text}
use Rattle.dns_zone.proofs.zone.display.write_sets.Goals as goal

pub loop-set-preserved : goal.loop-set-preserved
loop-set-preserved g c = λ plain.
    let so_far = c.loop-set.invariant plain in (
      so_far.0 ++ owner_lines c.name.result.now c.as_slice.result.now,
      has_written_append _ _ _ _ _ _ so_far.1 (search rules),
      next_text set_lines c.loop-set.sets c.next.new.self c.in-Some.set.now _ so_far.0 _ (λ i. owner_lines (c.name.ensures i) (c.as_slice.ensures i)) c.in-Some.ensures.steps so_far.2,
    )
