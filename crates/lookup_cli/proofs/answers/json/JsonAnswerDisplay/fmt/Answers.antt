use Rattle.std.proofs.Common.{rules, ◌++◌, List, ℕ}
use Rattle.lookup_cli.specs.answers.Json.{answer_error, json_asked, json_end, json_found}
use Rattle.lookup_cli.specs.declared.answers.answer.Answer.{Answer}
use Rattle.lookup_cli.proofs.EndLaws.{text_and_end}
use Rattle.lookup_cli.proofs.answers.json.JsonAnswerDisplay.fmt.Goals as goal

pub returns-clause-writes : goal.returns-clause-writes
returns-clause-writes g c =
    let a : Answer = c.args.self.now.0.now in
    let end : List ℕ → List ℕ = json_end a.questions a.milliseconds in
    text_and_end g.W.Write.write_str_gives c.args.f.now c.write_asked.new.f c.write_end.new.f c.write_end.result (json_asked a)
    (λ x. json_found a ++ end x) (answer_error a) (λ plain. c.in_ok-write_asked.ensures plain (search rules))
    (text_and_end g.W.Write.write_str_gives c.write_asked.new.f c.write_found.new.f c.write_end.new.f c.write_end.result (json_found a)
    end (answer_error a) (λ plain. c.in_ok-write_found.ensures plain (search rules)) c.write_end.ensures)
