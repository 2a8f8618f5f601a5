use Rattle.std.proofs.Common.{◌≡◌, List, length, map, ap, arith}
use Rattle.std.proofs.lemmas.List.{nil_from_length}
use Rattle.dns_text.specs.Token.{lexeme}
use Rattle.dns_text.specs.declared.token.Token.{Token}
use Rattle.zone_lines.specs.Word.{at_none, no_token}
use Rattle.zone_lines.proofs.WordLaws.{text_at_fault}
use Rattle.zone_lines.proofs.word.faulty_token.Goals as goal

pub returns-in-Some : goal.returns-in-Some
returns-in-Some c =
    let is = rw c.in-Some.is at c.in_ok-index.ensures in
    text_at_fault c.args.context.now c.args.tokens.now c.in-Some.index _ _ is c.text_of.ensures

pub returns-in-None : goal.returns-in-None
returns-in-None c = at_none (rw c.in-None.is at c.in_ok-index.ensures)

pub returns-then-is_empty : goal.returns-then-is_empty
returns-then-is_empty c =
    let none : length c.args.tokens.now ≡ 0 = search (arith, c.is_empty.ensures) in
    no_token (ap (λ (l : List Token). map lexeme l) (nil_from_length c.args.tokens.now none))
