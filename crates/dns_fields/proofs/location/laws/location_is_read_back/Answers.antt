use Rattle.dns_fields.proofs.LocationBackLaws.{location_back}
use Rattle.dns_fields.proofs.location.laws.location_is_read_back.Goals as goal

pub returns : goal.returns
returns c = λ bytes are is. location_back bytes are is
