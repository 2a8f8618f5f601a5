use Rattle.dns_fields.proofs.Base32Laws.{base32_back}
use Rattle.dns_fields.proofs.bitmaps.laws.base32_is_read_back.Goals as goal

pub returns : goal.returns
returns c = λ bytes are. base32_back bytes are
