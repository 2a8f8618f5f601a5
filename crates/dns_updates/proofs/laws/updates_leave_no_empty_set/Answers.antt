use Rattle.dns_updates.proofs.UpdateLaws.Kept.{all_filled}
use Rattle.dns_updates.proofs.laws.updates_leave_no_empty_set.Goals as goal

pub returns : goal.returns
returns c = λ origin rows m h. all_filled origin rows m h
