use Rattle.std.proofs.Common.{◌≡◌, [], length, arith}
use Rattle.std.proofs.lemmas.List.{nil_from_length}
use Rattle.stub_script.specs.ScriptText.{no_line}
use Rattle.stub_script.proofs.script_text.read_script.Goals as goal

pub returns-then-is_empty-clause-ok : goal.returns-then-is_empty-clause-ok
returns-then-is_empty-clause-ok c =
    let none : length c.args.text.now ≡ 0 = search (arith, c.is_empty.ensures) in
    let empty : c.args.text.now ≡ [] = nil_from_length c.args.text.now none in
    rw (c.no_events.ensures.lines, empty) no_line
