use Rattle.dns_updates.proofs.PrerequisiteLaws.{forbidden_name}
use Rattle.dns_updates.proofs.builder.laws.forbidden_names_are_not_in_use.Goals as goal

pub returns : goal.returns
returns c = λ id zone name rows inside. forbidden_name c.equal_labels_have_equal_lowercase.ensures id zone name rows inside
