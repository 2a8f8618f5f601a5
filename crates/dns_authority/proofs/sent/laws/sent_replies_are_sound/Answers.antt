use Rattle.dns_authority.proofs.SoundLaws.{sent_sound}
use Rattle.dns_authority.proofs.sent.laws.sent_replies_are_sound.Goals as goal

pub returns : goal.returns
returns c = sent_sound
