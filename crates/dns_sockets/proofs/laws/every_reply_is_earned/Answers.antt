use Rattle.std.proofs.Common.{arith}
use Rattle.dns_sockets.proofs.EarnsWitness.{earned}
use Rattle.dns_sockets.proofs.laws.every_reply_is_earned.Goals as goal

pub returns-clause-replies : goal.returns-clause-replies
returns-clause-replies c = λ new acts earns f. (earns.0 f 0 (omega arith)).0

pub returns-clause-requests : goal.returns-clause-requests
returns-clause-requests c = λ new acts earns g. (earns.1 g 0).0
