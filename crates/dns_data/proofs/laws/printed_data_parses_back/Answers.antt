use Rattle.dns_data.proofs.PrintedLaws.{printed_parses}
use Rattle.dns_data.proofs.laws.printed_data_parses_back.Goals as goal

pub returns : goal.returns
returns c = printed_parses
