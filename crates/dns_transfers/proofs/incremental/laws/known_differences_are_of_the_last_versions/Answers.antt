use Rattle.dns_transfers.proofs.VersionLaws.{none_known, recorded_known}
use Rattle.dns_transfers.proofs.incremental.laws.known_differences_are_of_the_last_versions.Goals as goal

pub returns : goal.returns
returns c = record { none = none_known; recorded = recorded_known }
