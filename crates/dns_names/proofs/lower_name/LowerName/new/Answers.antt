use Rattle.dns_names.proofs.ComparisonLaws.{lower-twice}
use Rattle.dns_names.proofs.lower_name.LowerName.new.Goals as goal

pub invariant_of-result : goal.invariant_of-result
invariant_of-result c = rw c.in_ok-to_lowercase.ensures.ok (lower-twice c.args.name.now.labels)
