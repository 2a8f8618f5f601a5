use Rattle.dns_updates.proofs.UpdateLaws.Kept.{all_alone}
use Rattle.dns_updates.proofs.laws.updates_add_nothing_beside_aliases.Goals as goal

pub returns : goal.returns
returns c = λ origin rows m h. all_alone c.equal_labels_have_equal_lowercase.ensures origin rows m h
