use Rattle.std.proofs.Common.{◌∙◌, ap}
use Rattle.std.specs.Prelude.{min}
use Rattle.dns_sockets.specs.Deadlines.{socket_deadline}
use Rattle.dns_sockets.proofs.DeadlineLaws.{earlier, earliest_whole}
use Rattle.dns_sockets.proofs.datagrams.earliest_socket.Goals as goal

pub loop-socket-preserved : goal.loop-socket-preserved
loop-socket-preserved c =
    c.min-least.ensures ∙ ap (min c.loop-socket.least) (c.deadline.ensures)
    ∙ earlier socket_deadline c.args.sockets.now c.loop-socket.socket-index _ c.loop-socket.least c.loop-socket-test.true c.loop-socket.invariant

pub returns : goal.returns
returns c = earliest_whole socket_deadline c.args.sockets.now c.loop-socket.socket-index c.loop-socket.least c.loop-socket-test.false c.loop-socket.invariant
