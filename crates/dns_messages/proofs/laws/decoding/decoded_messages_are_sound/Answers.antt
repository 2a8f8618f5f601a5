use Rattle.dns_messages.proofs.DecodedLaws.{message_sound}
use Rattle.dns_messages.proofs.laws.decoding.decoded_messages_are_sound.Goals as goal

pub returns : goal.returns
returns c = λ bytes message r. message_sound c.class_number_round_trips.ensures bytes message r
