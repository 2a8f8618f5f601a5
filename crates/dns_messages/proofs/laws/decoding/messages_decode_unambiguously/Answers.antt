use Rattle.dns_messages.proofs.MessageLaws.{message_same, message_not_refused}
use Rattle.dns_messages.proofs.RefusalLaws.{message_refusal_same}
use Rattle.dns_messages.proofs.laws.decoding.messages_decode_unambiguously.Goals as goal

pub returns-clause-same : goal.returns-clause-same
returns-clause-same c = λ bytes a b r r'. message_same bytes a b r r'

pub returns-clause-not_refused : goal.returns-clause-not_refused
returns-clause-not_refused c = λ bytes message error r refused. message_not_refused bytes message r error refused

pub returns-clause-one_error : goal.returns-clause-one_error
returns-clause-one_error c = λ bytes error other r r'. message_refusal_same bytes error other r r'
