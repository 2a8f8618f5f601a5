use Rattle.zone_check.proofs.ScriptLaws.{part_front, part_whole}
use Rattle.zone_check.proofs.script_line.front_at.Goals as goal

pub returns-in-Some : goal.returns-in-Some
returns-in-Some c =
    part_front c.args.text.now c.in-Some.front.now c.in-Some.field-0-1.now c.args.index c.in-Some.ensures.front c.in-Some.ensures.back

pub returns-in-None : goal.returns-in-None
returns-in-None c = part_whole c.args.text.now
