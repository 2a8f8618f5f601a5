use Rattle.dns_differences.proofs.HistoryLaws.{none_fit, recorded_fit}
use Rattle.dns_differences.proofs.laws.histories_stay_within_their_limits.Goals as goal

pub returns : goal.returns
returns c = record { empty = none_fit; recorded = recorded_fit }
