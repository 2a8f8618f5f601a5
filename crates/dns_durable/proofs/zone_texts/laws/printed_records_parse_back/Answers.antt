use Rattle.dns_durable.proofs.FileLaws.{lines_parse, lines_contain}
use Rattle.dns_durable.proofs.zone_texts.laws.printed_records_parse_back.Goals as goal

pub returns-clause-parses : goal.returns-clause-parses
returns-clause-parses c = lines_parse

pub returns-clause-contains : goal.returns-clause-contains
returns-clause-contains c = lines_contain
