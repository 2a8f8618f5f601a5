use Rattle.dns_authority.proofs.chain.+answer_at.Given as goal

abbrev pub decreases-answer_at : goal.decreases-answer_at
decreases-answer_at l = l.links
