use Rattle.dns_messages.proofs.message.Message.read_queries.Goals as goal

pub returns-in_err-queries-clause-decided : goal.returns-in_err-queries-clause-decided
returns-in_err-queries-clause-decided c = λ none. let never = c.in_err-queries.ensures.decided none in absurd (cc never)

pub returns-clause-decided : goal.returns-clause-decided
returns-clause-decided c = λ none. c.in_ok-queries.ensures.decided none
