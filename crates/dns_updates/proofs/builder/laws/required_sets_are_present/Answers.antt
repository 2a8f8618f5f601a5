use Rattle.dns_updates.proofs.PrerequisiteLaws.{required_set}
use Rattle.dns_updates.proofs.builder.laws.required_sets_are_present.Goals as goal

pub returns : goal.returns
returns c = λ id zone name t rows inside any. required_set c.equal_labels_have_equal_lowercase.ensures id zone name t rows inside any
