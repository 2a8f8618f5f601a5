use Rattle.dns_fields.proofs.ReadBackLaws.{bitmap_back}
use Rattle.dns_fields.proofs.bitmaps.laws.bitmap_is_read_back.Goals as goal

pub returns : goal.returns
returns c = λ bytes are is. bitmap_back bytes are is
