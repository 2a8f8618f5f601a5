use Rattle.std.proofs.Common.{rules}
use Rattle.lookup_cli.specs.answers.Json.{json_end, json_sent, update_error}
use Rattle.lookup_cli.specs.declared.answers.json.JsonUpdate.{JsonUpdate}
use Rattle.lookup_cli.proofs.EndLaws.{text_and_end}
use Rattle.lookup_cli.proofs.answers.json.JsonUpdateDisplay.fmt.Goals as goal

pub returns-clause-writes : goal.returns-clause-writes
returns-clause-writes g c =
    let u : JsonUpdate = c.args.self.now in
    text_and_end g.W.Write.write_str_gives c.args.f.now c.write_sent.new.f c.write_end.new.f c.write_end.result (json_sent u)
    (json_end u.questions u.milliseconds) (update_error u.outcome.now u.report) (λ plain. c.in_ok-write_sent.ensures plain (search rules))
    c.write_end.ensures
