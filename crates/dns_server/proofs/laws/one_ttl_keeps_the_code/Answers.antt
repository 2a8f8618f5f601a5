use Rattle.dns_server.proofs.SetTtlCodeLaws.{same_code}
use Rattle.dns_server.proofs.laws.one_ttl_keeps_the_code.Goals as goal

pub returns : goal.returns
returns c = same_code
