use Rattle.std.proofs.Common.{map}
use Rattle.dns_text.specs.Token.{lexeme}
use Rattle.zone_lines.specs.Word.{is_record}
use Rattle.zone_lines.proofs.WordLaws.{stands}
use Rattle.zone_lines.proofs.word.judge.Goals as goal
use Rattle.zone_lines.proofs.word.judge.Goals.{in-Ok, in-Err-Fault, in-Err-Memory}

pub returns : goal.returns
returns c = elim c.match-parse_record.branch [
  | in-Ok w ↦ rw w.result-is (is_record w.in-Ok.ensures.ok)
  | in-Err-Fault w ↦
      let refused = rw w.in-Err-Fault.field-0-is at w.in-Err-Fault.ensures.refused in
      rw w.result-is
      (stands c.args.context.now (map lexeme c.args.tokens.now) w.in-Err-Fault.fault w.standing_of.result w.standing_of.ensures refused)
  | in-Err-Memory w ↦ rw w.result-is tt
]
