use Rattle.dns_updates.proofs.PrerequisiteLaws.{forbidden_set}
use Rattle.dns_updates.proofs.builder.laws.forbidden_sets_are_absent.Goals as goal

pub returns : goal.returns
returns c = λ id zone name t rows inside any. forbidden_set c.equal_labels_have_equal_lowercase.ensures id zone name t rows inside any
