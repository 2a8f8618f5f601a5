use Rattle.dns_text.proofs.CharacterStringLaws.{printed_is_read}
use Rattle.dns_text.proofs.laws.quoted_strings_parse_back.Goals as goal

pub returns : goal.returns
returns c = printed_is_read
