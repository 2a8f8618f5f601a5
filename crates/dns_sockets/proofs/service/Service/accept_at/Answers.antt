use Rattle.dns_sockets.proofs.ConnectionLaws.{heard_none}
use Rattle.dns_sockets.proofs.StreamTableLaws.{found_at}
use Rattle.std.proofs.Common.{refl}
use Rattle.dns_sockets.proofs.service.Service.accept_at.Goals as goal

pub returns-then-index-len-clause-accepts : goal.returns-then-index-len-clause-accepts
returns-then-index-len-clause-accepts g c = λ within. record {
  events = c.accept.ensures.accepts.events;
  led = c.accept.ensures.accepts.led;
  holds = record {
    before = c.index_mut.result.now;
    left = c.accept.new.self;
    is_there = found_at c.args.self.now.listeners.items c.args.index c.index_mut.result.now within c.index_mut.ensures.value;
    is_set = refl;
    accepts = c.accept.ensures.accepts.holds;
  };
}

pub returns-else-index-len-clause-world : goal.returns-else-index-len-clause-world
returns-else-index-len-clause-world g c = heard_none g.W.World.performs c.args.self.now.streams.slots.items c.args.world.now
