use Rattle.dns_authority.proofs.SentLaws.{decoded_reply}
use Rattle.dns_authority.proofs.SoundLaws.{decoded_sound_reply}
use Rattle.dns_authority.proofs.sent.laws.sent_replies_have_records_of_zones.Goals as goal

pub returns-clause-received : goal.returns-clause-received
returns-clause-received c = decoded_sound_reply

pub returns-clause-sound : goal.returns-clause-sound
returns-clause-sound c = decoded_reply
