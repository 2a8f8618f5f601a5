use Rattle.std.proofs.Common.{arith}
use Rattle.dns_authority.proofs.FrontLaws.{same_answer}
use Rattle.dns_authority.proofs.view.AuthorityView.bare_answer.Goals as goal

pub returns-clause-answer : goal.returns-clause-answer
returns-clause-answer c =
    same_answer 18446744073709551615 c.in_ok-answer.answer _ c.in_ok-answer.ensures.answer (omega (arith, c.if-prove.false, c.len.ensures)) (omega (arith, c.if-prove-2.false, c.len-2.ensures))
