use Rattle.dns_zone.proofs.RisingLaws.{serial_rises}
use Rattle.dns_zone.proofs.laws.serials_rise_with_changes.Goals as goal

pub returns : goal.returns
returns c = λ zone m serial due e. serial_rises zone m serial due e
