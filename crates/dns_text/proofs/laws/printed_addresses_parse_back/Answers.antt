use Rattle.dns_text.proofs.AddressLaws.{text_spells, text_parses}
use Rattle.dns_text.proofs.laws.printed_addresses_parse_back.Goals as goal

pub returns : goal.returns
returns c = record { spells = text_spells; parses = text_parses }
