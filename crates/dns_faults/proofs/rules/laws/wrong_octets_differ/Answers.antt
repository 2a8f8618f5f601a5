use Rattle.std.proofs.Common.{arith}
use Rattle.std.proofs.lemmas.Bool.Decides.{nat_tests}
use Rattle.dns_faults.proofs.rules.laws.wrong_octets_differ.Goals as goal

pub returns : goal.returns
returns c = λ octet e. grind (arith, nat_tests, e)
