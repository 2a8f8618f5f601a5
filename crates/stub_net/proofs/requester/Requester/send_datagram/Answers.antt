use Rattle.std.proofs.Common.{Ok, refl}
use Rattle.stub_net.proofs.requester.Requester.send_datagram.Goals as goal

pub returns : goal.returns
returns g c = record {
  result = Ok c.in-Ok.field-0;
  network = c.send.new.self;
  sends = c.in-Ok.ensures;
  after = record {
    deadline = c.deadline-deadline.result;
    mid = c.deadline-deadline.new.self;
    network = c.wait.new.network;
    dropped = c.wait.new.dropped;
    reads = rw c.saturating_add-self.ensures at c.deadline-deadline.ensures;
    awaits = c.wait.ensures;
    new_is = refl;
  };
}
