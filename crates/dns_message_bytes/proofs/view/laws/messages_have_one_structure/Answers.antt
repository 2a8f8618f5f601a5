use Rattle.dns_message_bytes.proofs.RawMessageLaws.{raw_message}
use Rattle.dns_message_bytes.proofs.OneRawMessageLaws.{raw_message_same, raw_message_not_refused}
use Rattle.dns_message_bytes.proofs.view.laws.messages_have_one_structure.Goals as goal

pub returns-clause-decoded : goal.returns-clause-decoded
returns-clause-decoded c = λ bytes m reads. raw_message bytes m reads

pub returns-clause-unambiguous : goal.returns-clause-unambiguous
returns-clause-unambiguous c = λ bytes a b reads reads'. raw_message_same bytes a reads b reads'

pub returns-clause-not_refused : goal.returns-clause-not_refused
returns-clause-not_refused c = λ bytes raw error reads refused. raw_message_not_refused bytes raw reads error refused
