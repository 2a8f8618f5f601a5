use Rattle.dns_durable.proofs.KeepingLaws.{responds_keep}
use Rattle.dns_durable.proofs.laws.responses_are_calls.Goals as goal

pub returns : goal.returns
returns c = responds_keep
