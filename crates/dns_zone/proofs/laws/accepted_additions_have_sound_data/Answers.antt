use Rattle.dns_zone.proofs.UpdatedLaws.{accepted_sound}
use Rattle.dns_zone.proofs.laws.accepted_additions_have_sound_data.Goals as goal

pub returns : goal.returns
returns c = λ zone m sound ok. accepted_sound zone m sound ok
