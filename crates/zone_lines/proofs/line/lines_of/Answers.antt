use Rattle.std.proofs.Common.{◌≡◌, [], length, arith, refl}
use Rattle.std.proofs.lemmas.Iterator.Consumers.{map_from_collect}
use Rattle.std.proofs.lemmas.Iterator.Splits.{YieldsList-from_lines}
use Rattle.std.proofs.lemmas.List.{nil_from_length}
use Rattle.zone_lines.proofs.line.lines_of.Goals as goal

pub returns-then-is_empty-clause-ok : goal.returns-then-is_empty-clause-ok
returns-then-is_empty-clause-ok c =
    let none : length c.args.text.now ≡ 0 = search (arith, c.is_empty.ensures) in
    let empty : c.args.text.now ≡ [] = nil_from_length c.args.text.now none in
    let new : c.new.result.items ≡ [] = search (c.new.ensures) in
    rw (new, empty) refl

pub returns-clause-ok : goal.returns-clause-ok
returns-clause-ok c = map_from_collect _ c.collect.ensures.ran (YieldsList-from_lines c.args.text.now c.lines.ensures.rest)
