use Rattle.std.proofs.Common.{◌∙◌, sym, rules, tests}
use Rattle.std.proofs.lemmas.Iterator.{YieldsList-from_slice}
use Rattle.std.proofs.lemmas.Iterator.Search.{any_from_yields_List}
use Rattle.dns_text.specs.Token.{lexeme}
use Rattle.zone_lines.specs.Word.{is_start_word}
use Rattle.zone_lines.proofs.WordLaws.{any_lexeme}
use Rattle.zone_lines.proofs.word.names_start.Goals as goal

pub returns : goal.returns
returns c =
    any_from_yields_List (λ t. is_start_word (lexeme t)) _ _ c.any.result c.any.ensures.ran
    (YieldsList-from_slice c.args.tokens.now cc) (λ x b q k. search (rules, tests))
    ∙ sym (any_lexeme is_start_word c.args.tokens.now)
