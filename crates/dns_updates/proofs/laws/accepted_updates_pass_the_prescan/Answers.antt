use Rattle.dns_updates.proofs.UpdateLaws.Kept.{accepted_pass}
use Rattle.dns_updates.proofs.laws.accepted_updates_pass_the_prescan.Goals as goal

pub returns : goal.returns
returns c = λ origin rows m e. accepted_pass origin rows m e
