use Rattle.stub_link.proofs.AskLaws.{asks-untraced, updates-untraced}
use Rattle.stub_link.proofs.trace.laws.traced_handles_ask_as_others.Goals as goal

pub returns-clause-asks : goal.returns-clause-asks
returns-clause-asks g c = asks-untraced g.L.Link.sends g.L.Link.receives g.L.Link.streams g.L.Link.failure_count

pub returns-clause-updates : goal.returns-clause-updates
returns-clause-updates g c = updates-untraced g.L.Link.sends g.L.Link.receives g.L.Link.streams g.L.Link.failure_count
