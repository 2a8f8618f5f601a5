use Rattle.dns_messages.proofs.StrippingLaws.{stripped-unasked}
use Rattle.dns_messages.proofs.laws.editing.stripping_is_conditional.Goals as goal

pub returns-clause-unasked : goal.returns-clause-unasked
returns-clause-unasked c = stripped-unasked
