use Rattle.std.proofs.Common.{Ok, ap, ◌∙◌}
use Rattle.dns_messages.proofs.message.Message.read_records.Goals as goal

pub returns-in_err-read-clause-decided : goal.returns-in_err-read-clause-decided
returns-in_err-read-clause-decided c = λ none. let never = (c.in_err-read.ensures.decided none).0 in absurd (cc never)

pub returns-clause-decided : goal.returns-clause-decided
returns-clause-decided c = λ none. ap Ok ((c.in_ok-read.ensures.decided none).1 ∙ c.new-section.ensures)
