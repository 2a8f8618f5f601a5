use Rattle.zone_check.proofs.ScriptLaws.{part_of_part}
use Rattle.zone_check.proofs.script_line.split_link.Goals as goal

pub returns-clause-link : goal.returns-clause-link
returns-clause-link c =
    part_of_part c.args.line.now c.rest_at-link.result.now c.rest_at.result.now c.rest_at-link.ensures c.rest_at.ensures
