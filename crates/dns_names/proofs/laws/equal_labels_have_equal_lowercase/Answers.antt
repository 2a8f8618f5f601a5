use Rattle.dns_names.proofs.ComparisonLaws.{same_labels-true, lower-same}
use Rattle.dns_names.proofs.laws.equal_labels_have_equal_lowercase.Goals as goal

pub returns : goal.returns
returns c = λ a b. (same_labels-true a b, lower-same a b)
