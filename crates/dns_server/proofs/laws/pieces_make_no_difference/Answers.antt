use Rattle.dns_server.proofs.StreamLaws.{histories-agree}
use Rattle.dns_server.proofs.laws.pieces_make_no_difference.Goals as goal

pub returns : goal.returns
returns g c = λ updates start received one other now new stream others only h out k gone.
    histories-agree _ only start received one other now new stream others h out k gone
