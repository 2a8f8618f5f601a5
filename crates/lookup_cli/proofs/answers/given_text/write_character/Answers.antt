use Rattle.std.proofs.Common.{List, ℕ, arith, subst, sym}
use Rattle.std.proofs.lemmas.Grind.{common_steps}
use Rattle.std.specs.Fmt.{HasWritten}
use Rattle.lookup_cli.proofs.GivenTextLaws.{plain_character}
use Rattle.lookup_cli.proofs.answers.given_text.write_character.Goals as goal

pub returns-in_default-2 : goal.returns-in_default-2
returns-in_default-2 g c = λ plain ok.
    subst (λ (text : List ℕ). HasWritten g.W.Write.write_str_gives c.args.f.now text c.write_char.new.self)
    (sym (plain_character c.args.c (grind (arith, common_steps)) (grind (arith, common_steps)) (grind (arith, common_steps))))
    (c.write_char.ensures.writes plain ok)
