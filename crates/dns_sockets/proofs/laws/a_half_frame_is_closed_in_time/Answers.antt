use Rattle.dns_sockets.proofs.BoundLaws.{closed_in_time}
use Rattle.dns_sockets.proofs.laws.a_half_frame_is_closed_in_time.Goals as goal

pub returns : goal.returns
returns c = closed_in_time
