use Rattle.dns_differences.proofs.DifferenceLaws.{leads}
use Rattle.dns_differences.proofs.laws.a_difference_leads_to_the_new_version.Goals as goal

pub returns : goal.returns
returns c = leads
