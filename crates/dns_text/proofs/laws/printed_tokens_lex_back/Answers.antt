use Rattle.dns_text.proofs.DataLexing.{data_lex_back}
use Rattle.dns_text.proofs.laws.printed_tokens_lex_back.Goals as goal

pub returns : goal.returns
returns c = data_lex_back
