use Rattle.dns_differences.proofs.DifferenceLaws.{all_lead}
use Rattle.dns_differences.proofs.laws.differences_lead_to_the_last_version.Goals as goal

pub returns : goal.returns
returns c old new ds records lead are = all_lead ds old new records lead are
