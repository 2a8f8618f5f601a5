use Rattle.std.proofs.Common.{◌≡◌, [], length, arith, Some, None, refl}
use Rattle.std.proofs.lemmas.List.{nil_from_length}
use Rattle.update_text.specs.Words.{no_word}
use Rattle.update_text.proofs.update.parse_update.Goals as goal

pub returns-then-is_empty-clause-update : goal.returns-then-is_empty-clause-update
returns-then-is_empty-clause-update c =
    let none : length c.args.text.now ≡ 0 = search (arith, c.is_empty.ensures) in
    let empty : c.args.text.now ≡ [] = nil_from_length c.args.text.now none in
    (Some [], rw empty no_word, (None, refl, refl))
