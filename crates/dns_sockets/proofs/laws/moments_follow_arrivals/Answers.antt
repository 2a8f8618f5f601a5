use Rattle.std.proofs.Common.{None, Some, []}
use Rattle.dns_sockets.specs.Handler.{Handled}
use Rattle.dns_sockets.specs.Trace.{Socket}
use Rattle.dns_sockets.proofs.MomentLaws.{arrived_earlier, dated}
use Rattle.dns_sockets.proofs.MomentWitness.{moment_is_shown}
use Rattle.dns_sockets.proofs.SentLaws.{had_arrived}
use Rattle.dns_sockets.proofs.laws.moments_follow_arrivals.Goals as goal

pub returns-clause-requests : goal.returns-clause-requests
returns-clause-requests c = λ waiting left streams open_after before rest origin call place request served is. dated before origin call rest place request served.timed is

pub returns-clause-datagrams : goal.returns-clause-datagrams
returns-clause-datagrams c = λ left streams open_after before rest socket requests outcome place request served is.
    let d = dated before (Socket socket) (Handled requests outcome) rest place request served.timed is in
    record {
      dated = d;
      arrived = arrived_earlier request.moment socket request.bytes request.peer before d (had_arrived before socket requests outcome rest place request (served.earns.1 _ 0).0 is);
    }
