use Rattle.stub_net_sockets.specs.SocketNetwork.{socket_clock}
use Rattle.stub_net_sockets.proofs.ClockLaws.{sockets-clock}
use Rattle.stub_net_sockets.proofs.laws.socket_exchanges_end_in_time.Goals as goal

pub returns : goal.returns
returns g c = λ slack m old new outcome e. c.exchanges_end_in_time.ensures.prompt socket_clock slack m old new outcome sockets-clock e
