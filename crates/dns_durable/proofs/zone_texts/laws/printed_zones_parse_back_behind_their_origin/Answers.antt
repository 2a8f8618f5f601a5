use Rattle.dns_durable.proofs.ZoneLaws.{file_reads}
use Rattle.dns_durable.proofs.zone_texts.laws.printed_zones_parse_back_behind_their_origin.Goals as goal

pub returns : goal.returns
returns c = file_reads
