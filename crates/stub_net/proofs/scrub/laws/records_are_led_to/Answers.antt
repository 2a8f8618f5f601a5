use Rattle.stub_net.proofs.ScrubLaws.{given_are_led}
use Rattle.stub_net.proofs.scrub.laws.records_are_led_to.Goals as goal

pub returns : goal.returns
returns g c = λ old new request q now response one given. given_are_led g.H.DnsHandle.gives old new request q now response one given
