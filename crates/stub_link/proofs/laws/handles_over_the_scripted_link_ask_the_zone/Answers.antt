use Rattle.stub_link.proofs.Carrying.{ask-leads}
use Rattle.stub_link.proofs.laws.handles_over_the_scripted_link_ask_the_zone.Goals as goal

pub returns : goal.returns
returns c = ask-leads c.messages_decode_unambiguously.ensures.same c.headers_are_peeked.ensures
