use Rattle.stub_link.proofs.SoundReplies.{wire-replies, zone-replies}
use Rattle.stub_link.proofs.laws.questions.replies_lead_to_full_names.Goals as goal

pub returns-clause-any_link : goal.returns-clause-any_link
returns-clause-any_link g c = λ old new request now outcome asks.
    wire-replies g.L.Link.sends g.L.Link.receives g.L.Link.streams g.L.Link.failure_count old request now outcome new asks

pub returns-clause-zone : goal.returns-clause-zone
returns-clause-zone g c = zone-replies
