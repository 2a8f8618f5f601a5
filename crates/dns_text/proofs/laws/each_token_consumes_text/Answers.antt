use Rattle.dns_text.proofs.ReadingLaws.{each_shortens}
use Rattle.dns_text.proofs.laws.each_token_consumes_text.Goals as goal

pub returns : goal.returns
returns c = each_shortens
