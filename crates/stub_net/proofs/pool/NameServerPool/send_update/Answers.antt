use Rattle.std.proofs.Common.{ap}
use Rattle.stub_link.specs.Request.{whole_update}
use Rattle.stub_net.specs.declared.requester.Requester.{Requester}
use Rattle.stub_net.proofs.pool.NameServerPool.send_update.Goals as goal

pub exchange-outcome-requires : goal.exchange-outcome-requires
exchange-outcome-requires g c = rw c.message.ensures.message (whole_update _ c.message.ensures.update)

pub returns : goal.returns
returns g c = record {
  outcome = c.exchange-outcome.result;
  uncounted = c.exchange-outcome.new.self;
  exchange = rw c.message.ensures.message at c.exchange-outcome.ensures;
  reply_is = c.code_of.ensures;
  counted = ap (λ (r : Requester g.row.N.Denot). record c.exchange-outcome.new.self { requester = r }) c.count_fault.ensures;
}
