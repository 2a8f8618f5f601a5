use Rattle.dns_zone_file.proofs.OutcomeLaws.{same_parse}
use Rattle.dns_zone_file.proofs.laws.parsing_is_deterministic.Goals as goal

pub returns : goal.returns
returns c = λ types includes origin text a b parses others. same_parse b parses others
