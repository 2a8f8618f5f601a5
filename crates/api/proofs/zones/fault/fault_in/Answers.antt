use Rattle.std.proofs.Common.{rules}
use Rattle.api.proofs.zones.fault.fault_in.Goals as goal

pub returns-in-Ok-clause-found : goal.returns-in-Ok-clause-found
returns-in-Ok-clause-found c = (c.in-Ok.zone, search rules)
