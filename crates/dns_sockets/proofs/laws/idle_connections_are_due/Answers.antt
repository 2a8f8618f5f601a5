use Rattle.dns_sockets.proofs.BoundLaws.{waits_are, wakes_for}
use Rattle.dns_sockets.proofs.laws.idle_connections_are_due.Goals as goal

pub returns-clause-waits : goal.returns-clause-waits
returns-clause-waits c = waits_are

pub returns-clause-wakes : goal.returns-clause-wakes
returns-clause-wakes c = wakes_for
