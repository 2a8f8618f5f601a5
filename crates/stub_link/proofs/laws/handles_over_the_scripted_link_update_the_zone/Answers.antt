use Rattle.stub_link.proofs.Carrying.{update-leads}
use Rattle.stub_link.proofs.laws.handles_over_the_scripted_link_update_the_zone.Goals as goal

pub returns : goal.returns
returns c = update-leads c.messages_decode_unambiguously.ensures.same c.headers_are_peeked.ensures
