use Rattle.dns_names.proofs.ComparisonLaws.{at_or_below-lower}
use Rattle.dns_names.proofs.laws.zone_of_ignores_case.Goals as goal

pub returns : goal.returns
returns c = at_or_below-lower
