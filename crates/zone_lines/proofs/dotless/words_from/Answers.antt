use Rattle.std.proofs.Common.{◌-◌, ◌∙◌, ap, arith, drop, length, map, sym}
use Rattle.std.proofs.lemmas.List.{drop-map, length-drop, take_all}
use Rattle.dns_text.specs.Token.{lexeme}
use Rattle.zone_lines.proofs.dotless.words_from.Goals as goal

pub returns : goal.returns
returns c =
    let words = c.args.words.now in
    let place = c.args.place in
    ap (map lexeme) (take_all (length words - place) (drop place words) (omega (arith, length-drop place words)))
    ∙ sym (drop-map lexeme place words)
