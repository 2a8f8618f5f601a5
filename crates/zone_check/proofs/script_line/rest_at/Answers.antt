use Rattle.zone_check.proofs.ScriptLaws.{part_rest}
use Rattle.zone_check.proofs.script_line.rest_at.Goals as goal

pub returns-in-Some : goal.returns-in-Some
returns-in-Some c =
    part_rest c.args.text.now c.in-Some.field-0-0.now c.in-Some.rest.now c.args.index c.in-Some.ensures.front c.in-Some.ensures.back
