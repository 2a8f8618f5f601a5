use Rattle.dns_server.proofs.OneTtlLaws.{one_ttl}
use Rattle.dns_server.proofs.laws.completed_updates_have_one_ttl.Goals as goal

pub returns : goal.returns
returns c = one_ttl
