use Rattle.dns_messages.proofs.StrippingLaws.{stripped-twice}
use Rattle.dns_messages.proofs.laws.editing.stripping_is_idempotent.Goals as goal

pub returns : goal.returns
returns c = stripped-twice
