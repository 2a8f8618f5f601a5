use Rattle.dns_server.proofs.StreamLaws.{happen-history}
use Rattle.dns_server.proofs.laws.frames_are_served_in_order.Goals as goal

pub returns : goal.returns
returns g c = λ updates start now steps written stream happen.
    happen-history _ start now steps written stream happen
