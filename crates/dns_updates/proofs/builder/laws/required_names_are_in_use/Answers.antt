use Rattle.dns_updates.proofs.PrerequisiteLaws.{required_name}
use Rattle.dns_updates.proofs.builder.laws.required_names_are_in_use.Goals as goal

pub returns : goal.returns
returns c = λ id zone name rows inside. required_name c.equal_labels_have_equal_lowercase.ensures id zone name rows inside
