use Rattle.zone_check.proofs.ReportLaws.{accepted}
use Rattle.zone_check.proofs.laws.files_without_faults_are_accepted.Goals as goal

pub returns : goal.returns
returns c = λ file check. accepted file check
