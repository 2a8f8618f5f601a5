use Rattle.dns_zone.proofs.PrintedLaws.{text_reads}
use Rattle.dns_zone.proofs.laws.printed_zones_parse_back.Goals as goal

pub returns : goal.returns
returns c = text_reads
