use Rattle.dns_durable.proofs.ZoneLaws.{text_reads}
use Rattle.dns_durable.proofs.zone_texts.laws.printed_zones_parse_back.Goals as goal

pub returns : goal.returns
returns c = text_reads
