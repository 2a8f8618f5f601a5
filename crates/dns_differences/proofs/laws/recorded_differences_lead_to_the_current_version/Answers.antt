use Rattle.dns_differences.proofs.HistoryLaws.{empty_history, recorded_history}
use Rattle.dns_differences.proofs.laws.recorded_differences_lead_to_the_current_version.Goals as goal

pub returns : goal.returns
returns c = record { empty = empty_history; recorded = recorded_history }
